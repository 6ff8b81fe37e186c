-- Command lines: a line's reading is that of its word and its argument.
use Rattle.std.proofs.Common.{◌≡◌, ℕ, ◌==◌, Bool, true, false, cond, ◌&&◌, ◌||◌, List, [], ◌∷◌, ◌++◌, map, length, codes, Option, None, Some, Ok, Err, option_map, ok_or, find, ◌⊎◌, inl, inr, sym, ap, subst, refl, ◌∙◌}
use Rattle.std.proofs.lemmas.List.{nil_from_length}
use Rattle.std.proofs.lemmas.List.Sums.{list_all-from_AllPass, AllPass-from_list_all}
use Rattle.std.proofs.lemmas.List.Folds.{list_all-append}
use Rattle.std.proofs.lemmas.Bool.{or_right, cases_Bool, cond-true, cond-false, eqb-true}
use Rattle.std.specs.List.{list_all, AllPass}
use Rattle.std.specs.Char.{to_ascii_lowercase}
use Rattle.std.specs.Str.{bytes_eq}
use Rattle.relay_octets.specs.LetterCase.{IsSameWord}
use Rattle.relay_lines.specs.Word.{is_space, is_printable, are_printable, is_word, without_trailing_blanks, first_word, argument_of, after_keyword, is_host_word, SplitsLine}
use Rattle.relay_lines.specs.declared.command.LineFault.TheVariants.{BadByte, BadArgument}
use Rattle.relay_lines.specs.declared.chunk_argument.BdatArgument.{BdatArgument}
use Rattle.relay_lines.specs.ChunkArgument.{bdat_argument_of}
use Rattle.relay_lines.proofs.ChunkArgumentLemmas.{bdat_argument_is_of_spelling}
use Rattle.relay_lines.specs.declared.command.Verb.{Verb}
use Rattle.relay_lines.specs.declared.command.Verb.TheVariants as verb
use Rattle.relay_lines.specs.Command.{Command, Helo, Ehlo, Mail, Rcpt, Data, Bdat, Rset, Noop, Vrfy, Help, Quit, word_of, verbs, verb_of, bdat_if, is_bdat, command_if, command_of, reading_of_verb, reading_of_words, reading_of_text, reading_of, IsSpelled, ReadsCommand, EveryLineSplits, SplitIsOne, ReadingIsOfWords}
use Rattle.relay_lines.proofs.WordLemmas.{AllPass-weaker, text-split, first_word-split, argument_of-split, line-splits, same_word, after_keyword-found, begins-after_keyword, host-from_test, host-test}

pub every_line_splits : EveryLineSplits
every_line_splits line =
    (first_word (without_trailing_blanks line), argument_of (without_trailing_blanks line), line-splits line)

pub split_is_one : SplitIsOne
split_is_one line word argument other more one two =
    (sym (first_word-split line word argument one) ∙ first_word-split line other more two, sym (argument_of-split line word argument one) ∙ argument_of-split line other more two)

-- spaces are printable
pub space-printable : (octet : ℕ) → is_space octet ≡ true → is_printable octet ≡ true
space-printable octet test = ap is_printable (eqb-true octet 32 test)

are_printable-split : (line word argument : List ℕ) → SplitsLine line word argument
    → are_printable (without_trailing_blanks line) ≡ are_printable (word ++ argument)
unfolding are_printable
are_printable-split line word argument split =
    let spaces =
    list_all-from_AllPass is_printable split.spaces
    (AllPass-weaker is_space is_printable split.spaces space-printable split.are_spaces) in
    let after =
    list_all-append is_printable split.spaces argument
    ∙ ap (λ b. b && list_all is_printable argument) spaces in
    ap (list_all is_printable) (text-split line word argument split)
    ∙ list_all-append is_printable word (split.spaces ++ argument)
    ∙ ap (λ b. list_all is_printable word && b) after
    ∙ sym (list_all-append is_printable word argument)

pub reading_is_of_words : ReadingIsOfWords
unfolding reading_of reading_of_text
reading_is_of_words line word argument split =
    let text = without_trailing_blanks line in
    let printable = are_printable-split line word argument split in
    ap
    (λ b. cond (b || is_bdat (first_word text)) (reading_of_words (first_word text) (argument_of text)) (Err BadByte)) printable
    ∙ ap
    (λ w. cond (are_printable (word ++ argument) || is_bdat w) (reading_of_words w (argument_of text)) (Err BadByte))
    (first_word-split line word argument split)
    ∙ ap
    (λ a. cond (are_printable (word ++ argument) || is_bdat word) (reading_of_words word a) (Err BadByte))
    (argument_of-split line word argument split)

-- the verb of a word doesn't depend on its letter case
pub verb_of-same : (word again : List ℕ) → IsSameWord word again → verb_of word ≡ verb_of again
unfolding verb_of is_word
verb_of-same word again same =
    ap (λ l. find (λ v. bytes_eq l (map to_ascii_lowercase (word_of v))) verbs) same

verb_of-word_of : (v : Verb) → verb_of (word_of v) ≡ Some v
unfolding verb_of is_word
verb_of-word_of verb.Helo = refl
verb_of-word_of verb.Ehlo = refl
verb_of-word_of verb.Mail = refl
verb_of-word_of verb.Rcpt = refl
verb_of-word_of verb.Data = refl
verb_of-word_of verb.Bdat = refl
verb_of-word_of verb.Rset = refl
verb_of-word_of verb.Noop = refl
verb_of-word_of verb.Vrfy = refl
verb_of-word_of verb.Help = refl
verb_of-word_of verb.Expn = refl
verb_of-word_of verb.Turn = refl
verb_of-word_of verb.Quit = refl

pub verb_of-spelled : (word : List ℕ) (v : Verb) → IsSameWord word (word_of v)
    → verb_of word ≡ Some v
verb_of-spelled word v same = verb_of-same word (word_of v) same ∙ verb_of-word_of v

-- what is found passes
find-passes : (test : Verb → Bool) (xs : List Verb) (v : Verb) → find test xs ≡ Some v
    → test v ≡ true
find-passes test [] v found = cc
find-passes test (x ∷ xs) v found =
    elim (cases_Bool (test x)) [
      | inl here ↦
          let first = cond-true (test x) (Some x) (find test xs) here in
          let same : x ≡ v = cc in
          ap test (sym same) ∙ here
      | inr later ↦ find-passes test xs v (sym (cond-false (test x) (Some x) (find test xs) later) ∙ found)
    ]

pub verb_of-is : (word : List ℕ) (v : Verb) → verb_of word ≡ Some v → IsSameWord word (word_of v)
unfolding verb_of
verb_of-is word v found =
    same_word word (word_of v) (find-passes (λ u. is_word word (word_of u)) verbs v found)

-- what a test that was passed, and a part that was found, say of a command
command_if-ok : (b : Bool) (made command : Command) → command_if b made ≡ Ok command
    → (b ≡ true) × (made ≡ command)
command_if-ok true made command e = (refl, cc)
command_if-ok false made command e = absurd (cc)

ok_or-ok : (make : List ℕ → Command) (found : Option (List ℕ)) (command : Command)
    → ok_or (option_map make found) BadArgument ≡ Ok command
    → (part : List ℕ) × (found ≡ Some part) × (make part ≡ command)
ok_or-ok make None command e = absurd (cc)
ok_or-ok make (Some part) command e = (part, refl, cc)

pub bdat_if-ok : (found : Option BdatArgument) (command : Command) → bdat_if found ≡ Ok command
    → (chunk : BdatArgument) × (found ≡ Some chunk) × (Bdat chunk ≡ command)
bdat_if-ok None command e = absurd (cc)
bdat_if-ok (Some chunk) command e = (chunk, refl, cc)

-- a verb whose argument was taken spells the command
pub spelled-command_of : (v : Verb) (word argument : List ℕ) (command : Command)
    → IsSameWord word (word_of v) → command_of v argument ≡ Ok command
    → IsSpelled command word argument
unfolding command_of
spelled-command_of verb.Helo word argument command same e =
    let p = command_if-ok (is_host_word argument) (Helo argument) command e in
    subst (λ c. IsSpelled c word argument) p.1 (same, host-from_test argument p.0, refl)
spelled-command_of verb.Ehlo word argument command same e =
    let p = command_if-ok (is_host_word argument) (Ehlo argument) command e in
    subst (λ c. IsSpelled c word argument) p.1 (same, host-from_test argument p.0, refl)
spelled-command_of verb.Mail word argument command same e =
    let p = ok_or-ok Mail (after_keyword (codes "FROM:") argument) command e in
    subst (λ c. IsSpelled c word argument) p.2 (same, begins-after_keyword (codes "FROM:") argument p.0 p.1)
spelled-command_of verb.Rcpt word argument command same e =
    let p = ok_or-ok Rcpt (after_keyword (codes "TO:") argument) command e in
    subst (λ c. IsSpelled c word argument) p.2 (same, begins-after_keyword (codes "TO:") argument p.0 p.1)
spelled-command_of verb.Data word argument command same e =
    let p = command_if-ok (length argument == 0) Data command e in
    subst (λ c. IsSpelled c word argument) p.1
    (same, nil_from_length argument (eqb-true (length argument) 0 p.0))
spelled-command_of verb.Bdat word argument command same e =
    let p = bdat_if-ok (bdat_argument_of argument) command e in
    subst (λ c. IsSpelled c word argument) p.2 (same, (bdat_argument_is_of_spelling argument p.0).0 p.1)
spelled-command_of verb.Rset word argument command same e =
    let p = command_if-ok (length argument == 0) Rset command e in
    subst (λ c. IsSpelled c word argument) p.1
    (same, nil_from_length argument (eqb-true (length argument) 0 p.0))
spelled-command_of verb.Noop word argument command same e =
    let is : Noop ≡ command = cc in
    subst (λ c. IsSpelled c word argument) is same
spelled-command_of verb.Vrfy word argument command same e =
    let is : Vrfy ≡ command = cc in
    subst (λ c. IsSpelled c word argument) is same
spelled-command_of verb.Help word argument command same e =
    let is : Help ≡ command = cc in
    subst (λ c. IsSpelled c word argument) is same
spelled-command_of verb.Expn word argument command same e = absurd (cc)
spelled-command_of verb.Turn word argument command same e = absurd (cc)
spelled-command_of verb.Quit word argument command same e =
    let p = command_if-ok (length argument == 0) Quit command e in
    subst (λ c. IsSpelled c word argument) p.1
    (same, nil_from_length argument (eqb-true (length argument) 0 p.0))

spelled-verb : (found : Option Verb) (word argument : List ℕ) (command : Command)
    → verb_of word ≡ found → reading_of_verb found argument ≡ Ok command
    → IsSpelled command word argument
spelled-verb None word argument command is e = absurd (cc)
spelled-verb (Some v) word argument command is e =
    spelled-command_of v word argument command (verb_of-is word v is) e

pub spelled-words : (word argument : List ℕ) (command : Command)
    → reading_of_words word argument ≡ Ok command → IsSpelled command word argument
unfolding reading_of_words
spelled-words word argument command e = spelled-verb (verb_of word) word argument command refl e

-- the reading of a word that is a verb
pub reading_of_words-verb : (word argument : List ℕ) (v : Verb) → IsSameWord word (word_of v)
    → reading_of_words word argument ≡ command_of v argument
unfolding reading_of_words
reading_of_words-verb word argument v same =
    ap (λ found. reading_of_verb found argument) (verb_of-spelled word v same)

-- a word and an argument that spell a command are read as it
pub words-spelled : (command : Command) (word argument : List ℕ) → IsSpelled command word argument
    → reading_of_words word argument ≡ Ok command
unfolding command_of
words-spelled (Helo host) word argument spelled =
    reading_of_words-verb word argument verb.Helo spelled.0
    ∙ ap (λ a. command_if (is_host_word a) (Helo a)) spelled.2
    ∙ ap (λ b. command_if b (Helo host)) (host-test host spelled.1)
words-spelled (Ehlo host) word argument spelled =
    reading_of_words-verb word argument verb.Ehlo spelled.0
    ∙ ap (λ a. command_if (is_host_word a) (Ehlo a)) spelled.2
    ∙ ap (λ b. command_if b (Ehlo host)) (host-test host spelled.1)
words-spelled (Mail path) word argument spelled =
    reading_of_words-verb word argument verb.Mail spelled.0
    ∙ ap (λ found. ok_or (option_map Mail found) BadArgument)
    (after_keyword-found (codes "FROM:") argument path spelled.1)
words-spelled (Rcpt path) word argument spelled =
    reading_of_words-verb word argument verb.Rcpt spelled.0
    ∙ ap (λ found. ok_or (option_map Rcpt found) BadArgument)
    (after_keyword-found (codes "TO:") argument path spelled.1)
words-spelled Data word argument spelled =
    reading_of_words-verb word argument verb.Data spelled.0
    ∙ ap (λ a. command_if (length a == 0) Data) spelled.1
words-spelled (Bdat chunk) word argument spelled =
    reading_of_words-verb word argument verb.Bdat spelled.0
    ∙ ap bdat_if ((bdat_argument_is_of_spelling argument chunk).1 spelled.1)
words-spelled Rset word argument spelled =
    reading_of_words-verb word argument verb.Rset spelled.0
    ∙ ap (λ a. command_if (length a == 0) Rset) spelled.1
words-spelled Noop word argument spelled = reading_of_words-verb word argument verb.Noop spelled
words-spelled Vrfy word argument spelled = reading_of_words-verb word argument verb.Vrfy spelled
words-spelled Help word argument spelled = reading_of_words-verb word argument verb.Help spelled
words-spelled Quit word argument spelled =
    reading_of_words-verb word argument verb.Quit spelled.0
    ∙ ap (λ a. command_if (length a == 0) Quit) spelled.1

-- the word of BDAT is found in any letter case
pub is_bdat-same : (word again : List ℕ) → IsSameWord word again → is_bdat word ≡ is_bdat again
unfolding is_word
is_bdat-same word again same = ap (λ l. bytes_eq l (map to_ascii_lowercase (codes "BDAT"))) same

is_bdat-true : (word : List ℕ) → IsSameWord word (codes "BDAT") → is_bdat word ≡ true
unfolding is_word
is_bdat-true word same = is_bdat-same word (codes "BDAT") same

-- whether the words are printable, or the word is BDAT, decides the reading
pub reading-printable : (line word argument : List ℕ) → SplitsLine line word argument
    → AllPass is_printable (word ++ argument) → reading_of line ≡ reading_of_words word argument
unfolding are_printable
reading-printable line word argument split all =
    reading_is_of_words line word argument split
    ∙ cond-true (are_printable (word ++ argument) || is_bdat word) (reading_of_words word argument)
    (Err BadByte)
    (ap (λ b. b || is_bdat word) (list_all-from_AllPass is_printable (word ++ argument) all))

pub reading-bdat : (line word argument : List ℕ) → SplitsLine line word argument
    → IsSameWord word (codes "BDAT") → reading_of line ≡ bdat_if (bdat_argument_of argument)
unfolding command_of
reading-bdat line word argument split same =
    reading_is_of_words line word argument split
    ∙ cond-true (are_printable (word ++ argument) || is_bdat word) (reading_of_words word argument)
    (Err BadByte)
    (or_right (are_printable (word ++ argument)) (is_bdat word) (is_bdat-true word same))
    ∙ reading_of_words-verb word argument verb.Bdat same

reading-bad : (line word argument : List ℕ) → SplitsLine line word argument
    → are_printable (word ++ argument) ≡ false → is_bdat word ≡ false
    → reading_of line ≡ Err BadByte
reading-bad line word argument split bad other =
    reading_is_of_words line word argument split
    ∙ cond-false (are_printable (word ++ argument) || is_bdat word) (reading_of_words word argument)
    (Err BadByte) (ap (λ b. b || is_bdat word) bad ∙ other)

-- words that are printable, or BDAT, or a bad octet
pub cases-printable : (line word argument : List ℕ) → SplitsLine line word argument
    → (AllPass is_printable (word ++ argument)) ⊎ (IsSameWord word (codes "BDAT")) ⊎
    (reading_of line ≡ Err BadByte)
unfolding are_printable
cases-printable line word argument split =
    elim (cases_Bool (are_printable (word ++ argument))) [
      | inl all ↦ inl (AllPass-from_list_all is_printable (word ++ argument) all)
      | inr bad ↦ elim (cases_Bool (is_bdat word)) [
        | inl bdat ↦ inr (inl (same_word word (codes "BDAT") bdat))
        | inr other ↦ inr (inr (reading-bad line word argument split bad other))
      ]
    ]

pub reading-from_reads : (line : List ℕ) (command : Command) → ReadsCommand line command
    → reading_of line ≡ Ok command
reading-from_reads line command reads =
    reading-printable line reads.word reads.argument reads.splits reads.printable
    ∙ words-spelled command reads.word reads.argument reads.spelled
