-- Command lines that are none: where each fault is found.
use Rattle.std.proofs.Common.{◌≡◌, ℕ, ◌==◌, Bool, true, false, List, length, codes, Option, None, Some, Result, Ok, Err, option_map, ok_or, ◌⊎◌, inl, inr, sym, ap, subst, refl, ◌∙◌}
use Rattle.relay_octets.specs.LetterCase.{IsSameWord}
use Rattle.relay_lines.specs.Word.{after_keyword, is_host_word, SplitsLine}
use Rattle.relay_lines.specs.declared.command.LineFault.{LineFault}
use Rattle.relay_lines.specs.declared.command.LineFault.TheVariants.{Unknown, BadByte, BadArgument, NotOffered, BadChunkSize}
use Rattle.relay_lines.specs.declared.chunk_argument.BdatArgument.{BdatArgument}
use Rattle.relay_lines.specs.ChunkArgument.{SpellsBdat, bdat_argument_of}
use Rattle.relay_lines.proofs.ChunkArgumentLemmas.{bdat_argument_is_of_spelling}
use Rattle.relay_lines.specs.declared.command.Verb.{Verb}
use Rattle.relay_lines.specs.declared.command.Verb.TheVariants as verb
use Rattle.relay_lines.specs.Command.{Command, Helo, Ehlo, Mail, Rcpt, Data, Bdat, Rset, Noop, Vrfy, Help, Quit, word_of, is_offered, IsVerb, verb_of, bdat_if, command_if, command_of, reading_of_verb, reading_of_words, reading_of, IsSpelled, BadByteIsFound, UnknownIsFound, BadArgumentIsFound, NotOfferedIsFound, BadChunkSizeIsFound}
use Rattle.relay_lines.proofs.CommandLemmas.{reading_of_words-verb, reading-printable, reading-bdat, cases-printable, verb_of-spelled, verb_of-is, spelled-command_of, words-spelled}

-- BDAT takes a chunk
takes_chunk : Verb → Bool
takes_chunk verb.Bdat = true
takes_chunk _ = false

-- what comes of a verb and its argument: a command, a bad argument of a verb that is offered, a
-- verb that isn't, or a bad chunk size
abbrev Comes : Bool → Bool → Result Command LineFault → Type 0
Comes offered chunked reading =
    ((command : Command) × (reading ≡ Ok command))
    ⊎ ((reading ≡ Err BadArgument) × (offered ≡ true) × (chunked ≡ false))
    ⊎ ((reading ≡ Err NotOffered) × (offered ≡ false))
    ⊎ ((reading ≡ Err BadChunkSize) × (chunked ≡ true))

command_if-cases : (b : Bool) (made : Command) → Comes true false (command_if b made)
command_if-cases true made = inl (made, refl)
command_if-cases false made = inr (inl (refl, refl, refl))

ok_or-cases : (make : List ℕ → Command) (found : Option (List ℕ))
    → Comes true false (ok_or (option_map make found) BadArgument)
ok_or-cases make None = inr (inl (refl, refl, refl))
ok_or-cases make (Some part) = inl (make part, refl)

bdat_if-cases : (found : Option BdatArgument) → Comes true true (bdat_if found)
bdat_if-cases None = inr (inr (inr (refl, refl)))
bdat_if-cases (Some chunk) = inl (Bdat chunk, refl)

command_of-cases : (v : Verb) (argument : List ℕ)
    → Comes (is_offered v) (takes_chunk v) (command_of v argument)
unfolding command_of takes_chunk
command_of-cases verb.Helo argument = command_if-cases (is_host_word argument) (Helo argument)
command_of-cases verb.Ehlo argument = command_if-cases (is_host_word argument) (Ehlo argument)
command_of-cases verb.Mail argument = ok_or-cases Mail (after_keyword (codes "FROM:") argument)
command_of-cases verb.Rcpt argument = ok_or-cases Rcpt (after_keyword (codes "TO:") argument)
command_of-cases verb.Data argument = command_if-cases (length argument == 0) Data
command_of-cases verb.Bdat argument = bdat_if-cases (bdat_argument_of argument)
command_of-cases verb.Rset argument = command_if-cases (length argument == 0) Rset
command_of-cases verb.Noop argument = inl (Noop, refl)
command_of-cases verb.Vrfy argument = inl (Vrfy, refl)
command_of-cases verb.Help argument = inl (Help, refl)
command_of-cases verb.Expn argument = inr (inr (inl (refl, refl)))
command_of-cases verb.Turn argument = inr (inr (inl (refl, refl)))
command_of-cases verb.Quit argument = command_if-cases (length argument == 0) Quit

-- a verb that isn't offered says nothing else
not_offered-verb : (v : Verb) (argument : List ℕ) → is_offered v ≡ false
    → command_of v argument ≡ Err NotOffered
unfolding command_of
not_offered-verb verb.Helo argument lacks = absurd (cc)
not_offered-verb verb.Ehlo argument lacks = absurd (cc)
not_offered-verb verb.Mail argument lacks = absurd (cc)
not_offered-verb verb.Rcpt argument lacks = absurd (cc)
not_offered-verb verb.Data argument lacks = absurd (cc)
not_offered-verb verb.Bdat argument lacks = absurd (cc)
not_offered-verb verb.Rset argument lacks = absurd (cc)
not_offered-verb verb.Noop argument lacks = absurd (cc)
not_offered-verb verb.Vrfy argument lacks = absurd (cc)
not_offered-verb verb.Help argument lacks = absurd (cc)
not_offered-verb verb.Expn argument lacks = refl
not_offered-verb verb.Turn argument lacks = refl
not_offered-verb verb.Quit argument lacks = absurd (cc)

-- the verb that takes a chunk is BDAT
chunk-verb : (v : Verb) → takes_chunk v ≡ true → v ≡ verb.Bdat
unfolding takes_chunk
chunk-verb verb.Helo e = absurd (cc)
chunk-verb verb.Ehlo e = absurd (cc)
chunk-verb verb.Mail e = absurd (cc)
chunk-verb verb.Rcpt e = absurd (cc)
chunk-verb verb.Data e = absurd (cc)
chunk-verb verb.Bdat e = refl
chunk-verb verb.Rset e = absurd (cc)
chunk-verb verb.Noop e = absurd (cc)
chunk-verb verb.Vrfy e = absurd (cc)
chunk-verb verb.Help e = absurd (cc)
chunk-verb verb.Expn e = absurd (cc)
chunk-verb verb.Turn e = absurd (cc)
chunk-verb verb.Quit e = absurd (cc)

-- a word is one verb
one_verb : (word : List ℕ) (v other : Verb) → IsSameWord word (word_of v)
    → IsSameWord word (word_of other) → v ≡ other
one_verb word v other same too =
    let found = sym (verb_of-spelled word v same) ∙ verb_of-spelled word other too in
    cc

chunk-word : (word : List ℕ) (v : Verb) → IsSameWord word (word_of v) → takes_chunk v ≡ false
    → IsSameWord word (codes "BDAT") → ⊥
unfolding takes_chunk
chunk-word word v same other bdat =
    let is = ap takes_chunk (one_verb word v verb.Bdat same bdat) in
    let clash = sym other ∙ is in
    cc

-- the verb of a word and its reading, or none
found_faults : (found : Option Verb) (word argument : List ℕ) → verb_of word ≡ found
    →
    ((v : Verb) × (verb_of word ≡ Some v) × (reading_of_verb found argument ≡ command_of v argument)) ⊎
    ((verb_of word ≡ None) × (reading_of_verb found argument ≡ Err Unknown))
found_faults None word argument is = inr (is, refl)
found_faults (Some v) word argument is = inl (v, is, refl)

-- a word is a verb, whose reading it has, or is unknown
words-faults : (word argument : List ℕ)
    →
    ((v : Verb) × (verb_of word ≡ Some v) × (reading_of_words word argument ≡ command_of v argument)) ⊎
    ((verb_of word ≡ None) × (reading_of_words word argument ≡ Err Unknown))
unfolding reading_of_words
words-faults word argument = found_faults (verb_of word) word argument refl

-- a word and an argument give no bad octet
never_bad_byte : (word argument : List ℕ) → reading_of_words word argument ≡ Err BadByte → ⊥
never_bad_byte word argument e =
    elim (words-faults word argument) [
      | inl found ↦ elim (command_of-cases found.0 argument) [
        | inl taken ↦ let clash = sym e ∙ found.2 ∙ taken.1 in cc
        | inr (inl bad) ↦ let clash = sym e ∙ found.2 ∙ bad.0 in cc
        | inr (inr (inl lacks)) ↦ let clash = sym e ∙ found.2 ∙ lacks.0 in cc
        | inr (inr (inr chunk)) ↦ let clash = sym e ∙ found.2 ∙ chunk.0 in cc
      ]
      | inr none ↦ let clash = sym e ∙ none.1 in cc
    ]

-- a verb is known
unknown_verb : (v : Verb) (word argument : List ℕ) → IsSameWord word (word_of v)
    → reading_of_words word argument ≡ Err Unknown → ⊥
unknown_verb v word argument same e =
    let known = reading_of_words-verb word argument v same in
    elim (command_of-cases v argument) [
      | inl taken ↦ let clash = sym e ∙ known ∙ taken.1 in cc
      | inr (inl bad) ↦ let clash = sym e ∙ known ∙ bad.0 in cc
      | inr (inr (inl lacks)) ↦ let clash = sym e ∙ known ∙ lacks.0 in cc
      | inr (inr (inr chunk)) ↦ let clash = sym e ∙ known ∙ chunk.0 in cc
    ]

unknown-words : (word argument : List ℕ) → ((v : Verb) → ¬ IsSameWord word (word_of v))
    → reading_of_words word argument ≡ Err Unknown
unknown-words word argument none =
    elim (words-faults word argument) [
      | inl found ↦ absurd (none found.0 (verb_of-is word found.0 found.1))
      | inr unknown ↦ unknown.1
    ]

-- a bad argument stands after a verb that is offered and isn't BDAT, and what spells no command is
-- one
bad_argument-verb : (word argument : List ℕ) → reading_of_words word argument ≡ Err BadArgument
    → IsVerb true word × (¬ IsSameWord word (codes "BDAT"))
bad_argument-verb word argument e =
    elim (words-faults word argument) [
      | inl found ↦ elim (command_of-cases found.0 argument) [
        | inl taken ↦ absurd (let clash = sym e ∙ found.2 ∙ taken.1 in cc)
        | inr (inl bad) ↦
            let same = verb_of-is word found.0 found.1 in
            ((found.0, same, bad.1), λ bdat. chunk-word word found.0 same bad.2 bdat)
        | inr (inr (inl lacks)) ↦ absurd (let clash = sym e ∙ found.2 ∙ lacks.0 in cc)
        | inr (inr (inr chunk)) ↦ absurd (let clash = sym e ∙ found.2 ∙ chunk.0 in cc)
      ]
      | inr none ↦ absurd (let clash = sym e ∙ none.1 in cc)
    ]

bad_argument-words : (word argument : List ℕ) → IsVerb true word
    → (¬ IsSameWord word (codes "BDAT")) → ((command : Command) → ¬ IsSpelled command word argument)
    → reading_of_words word argument ≡ Err BadArgument
bad_argument-words word argument known other none =
    let reading = reading_of_words-verb word argument known.0 known.1 in
    elim (command_of-cases known.0 argument) [
      | inl taken ↦ absurd (none taken.0 (spelled-command_of known.0 word argument taken.0 known.1 taken.1))
      | inr (inl bad) ↦ reading ∙ bad.0
      | inr (inr (inl lacks)) ↦ absurd (let clash = sym known.2 ∙ lacks.1 in cc)
      | inr (inr (inr chunk)) ↦
          absurd
          (other (subst (λ (v : Verb). IsSameWord word (word_of v)) (chunk-verb known.0 chunk.1) known.1))
    ]

-- what isn't offered is a verb that isn't
not_offered-word : (word argument : List ℕ) → reading_of_words word argument ≡ Err NotOffered
    → IsVerb false word
not_offered-word word argument e =
    elim (words-faults word argument) [
      | inl found ↦ elim (command_of-cases found.0 argument) [
        | inl taken ↦ absurd (let clash = sym e ∙ found.2 ∙ taken.1 in cc)
        | inr (inl bad) ↦ absurd (let clash = sym e ∙ found.2 ∙ bad.0 in cc)
        | inr (inr (inl lacks)) ↦ (found.0, verb_of-is word found.0 found.1, lacks.1)
        | inr (inr (inr chunk)) ↦ absurd (let clash = sym e ∙ found.2 ∙ chunk.0 in cc)
      ]
      | inr none ↦ absurd (let clash = sym e ∙ none.1 in cc)
    ]

-- a bad chunk size stands after BDAT
bad_chunk_size-word : (word argument : List ℕ) → reading_of_words word argument ≡ Err BadChunkSize
    → IsSameWord word (codes "BDAT")
bad_chunk_size-word word argument e =
    elim (words-faults word argument) [
      | inl found ↦ elim (command_of-cases found.0 argument) [
        | inl taken ↦ absurd (let clash = sym e ∙ found.2 ∙ taken.1 in cc)
        | inr (inl bad) ↦ absurd (let clash = sym e ∙ found.2 ∙ bad.0 in cc)
        | inr (inr (inl lacks)) ↦ absurd (let clash = sym e ∙ found.2 ∙ lacks.0 in cc)
        | inr (inr (inr chunk)) ↦
            subst (λ (v : Verb). IsSameWord word (word_of v)) (chunk-verb found.0 chunk.1)
            (verb_of-is word found.0 found.1)
      ]
      | inr none ↦ absurd (let clash = sym e ∙ none.1 in cc)
    ]

-- of BDAT nothing comes but a chunk, or a bad chunk size
bdat-comes : (fault : LineFault) (found : Option BdatArgument) → bdat_if found ≡ Err fault
    → fault ≡ BadChunkSize
bdat-comes fault None e = cc
bdat-comes fault (Some chunk) e = absurd (cc)

bdat-none : (found : Option BdatArgument) (argument : List ℕ) → bdat_argument_of argument ≡ found
    → ((chunk : BdatArgument) → ¬ SpellsBdat argument chunk) → bdat_if found ≡ Err BadChunkSize
bdat-none None argument is none = refl
bdat-none (Some chunk) argument is none =
    absurd (none chunk ((bdat_argument_is_of_spelling argument chunk).0 is))

-- a line of BDAT has no other fault
bdat-fault : (line word argument : List ℕ) (fault : LineFault) → SplitsLine line word argument
    → IsSameWord word (codes "BDAT") → reading_of line ≡ Err fault → fault ≡ BadChunkSize
bdat-fault line word argument fault split same e =
    bdat-comes fault (bdat_argument_of argument) (sym (reading-bdat line word argument split same) ∙ e)

pub bad_byte_is_found : BadByteIsFound
bad_byte_is_found line word argument split = (
  λ e. (
    λ all. never_bad_byte word argument (sym (reading-printable line word argument split all) ∙ e),
    λ bdat. let clash = bdat-fault line word argument BadByte split bdat e in cc,
  ),
  λ bad. elim (cases-printable line word argument split) [
    | inl all ↦ absurd (bad.0 all)
    | inr (inl bdat) ↦ absurd (bad.1 bdat)
    | inr (inr is) ↦ is
  ],
)

pub unknown_is_found : UnknownIsFound
unknown_is_found line word argument split = (
  λ e. elim (cases-printable line word argument split) [
    | inl all ↦
        (all, λ v same. unknown_verb v word argument same (sym (reading-printable line word argument split all) ∙ e))
    | inr (inl bdat) ↦ absurd (let clash = bdat-fault line word argument Unknown split bdat e in cc)
    | inr (inr bad) ↦ absurd (let clash = sym bad ∙ e in cc)
  ],
  λ h. reading-printable line word argument split h.0 ∙ unknown-words word argument h.1,
)

pub bad_argument_is_found : BadArgumentIsFound
bad_argument_is_found line word argument split = (
  λ e. elim (cases-printable line word argument split) [
    | inl all ↦
        let words = sym (reading-printable line word argument split all) ∙ e in
        let verb = bad_argument-verb word argument words in
        (all, verb.0, verb.1, λ command spelled. absurd (let clash = sym (words-spelled command word argument spelled) ∙ words in cc))
    | inr (inl bdat) ↦ absurd (let clash = bdat-fault line word argument BadArgument split bdat e in cc)
    | inr (inr bad) ↦ absurd (let clash = sym bad ∙ e in cc)
  ],
  λ h. reading-printable line word argument split h.0 ∙ bad_argument-words word argument h.1 h.2 h.3,
)

pub not_offered_is_found : NotOfferedIsFound
not_offered_is_found line word argument split = (
  λ e. elim (cases-printable line word argument split) [
    | inl all ↦
        (all, not_offered-word word argument (sym (reading-printable line word argument split all) ∙ e))
    | inr (inl bdat) ↦ absurd (let clash = bdat-fault line word argument NotOffered split bdat e in cc)
    | inr (inr bad) ↦ absurd (let clash = sym bad ∙ e in cc)
  ],
  λ h. reading-printable line word argument split h.0
      ∙ reading_of_words-verb word argument h.1.0 h.1.1 ∙ not_offered-verb h.1.0 argument h.1.2,
)

-- a line of BDAT that spells a chunk has no fault
bdat-spelled : (line word argument : List ℕ) → SplitsLine line word argument
    → IsSameWord word (codes "BDAT") → reading_of line ≡ Err BadChunkSize → (chunk : BdatArgument)
    → SpellsBdat argument chunk → ⊥
bdat-spelled line word argument split same e chunk spelled =
    let found = (bdat_argument_is_of_spelling argument chunk).1 spelled in
    let clash = sym e ∙ reading-bdat line word argument split same ∙ ap bdat_if found in
    cc

pub bad_chunk_size_is_found : BadChunkSizeIsFound
bad_chunk_size_is_found line word argument split = (
  λ e. elim (cases-printable line word argument split) [
    | inl all ↦
        let same =
        bad_chunk_size-word word argument
        (sym (reading-printable line word argument split all) ∙ e) in
        (same, bdat-spelled line word argument split same e)
    | inr (inl bdat) ↦ (bdat, bdat-spelled line word argument split bdat e)
    | inr (inr bad) ↦ absurd (let clash = sym bad ∙ e in cc)
  ],
  λ h. reading-bdat line word argument split h.0 ∙ bdat-none (bdat_argument_of argument) argument refl h.1,
)
