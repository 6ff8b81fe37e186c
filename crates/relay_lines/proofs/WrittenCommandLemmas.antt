-- Commands as a client writes them: each is read as itself.
use Rattle.std.proofs.Common.{◌≡◌, ℕ, ◌+◌, ◌≤◌, nat_le, not, ◌==◌, Bool, true, false, List, [], ◌∷◌, ◌++◌, reverse, length, codes, Ok, inl, inr, sym, ap, refl, ◌∙◌, arith, length-append}
use Rattle.std.proofs.lemmas.List.{append-nil, reverse-append, length-reverse}
use Rattle.std.proofs.lemmas.List.Sums.{list_all-from_AllPass, AllPass-from_list_all}
use Rattle.std.proofs.lemmas.List.Folds.{list_all-append}
use Rattle.std.proofs.lemmas.Bool.{cases_Bool, cond-true, cond-false, not-true, and_from}
use Rattle.std.proofs.lemmas.Bool.Decides.{nat_tests}
use Rattle.std.specs.List.{list_all, prefix_len, suffix_len, AllPass}
use Rattle.std.specs.Char.{is_ascii_digit, is_ascii_graphic}
use Rattle.relay_lines.specs.Word.{is_space, is_no_space, is_blank, is_printable, IsHostWord, SplitsLine}
use Rattle.relay_lines.specs.declared.chunk_argument.BdatArgument.{BdatArgument}
use Rattle.relay_lines.specs.ChunkArgument.{SpellsBdat, StandsAfterSize}
use Rattle.relay_lines.specs.Command.{Command, Helo, Ehlo, Mail, Rcpt, Data, Bdat, Rset, Noop, Vrfy, Help, Quit, reading_of, IsSpelled}
use Rattle.relay_lines.proofs.WordLemmas.{AllPass-reverse, AllPass-weaker, host-graphic, graphic-printable, graphic-no_space, graphic-no_blank}
use Rattle.relay_lines.proofs.CommandLemmas.{reading-from_reads}
use Rattle.relay_lines.proofs.SpellingLemmas.{IsPlainWord, plain-same, chunk-printable, reading_is_of_spelling}
use Rattle.std.proofs.Common.{◌<◌, ◌^◌, decimal}
use Rattle.std.proofs.lemmas.Bool.{and_parts}
use Rattle.relay_octets.proofs.Theorems.{no_cr_is_no_crlf}
use Rattle.relay_lines.specs.Command.{CommandHasNoCrlf}
use Rattle.relay_lines.specs.WrittenCommand.{end_marker, written_command, MayFollow, IsCommandLine, WrittenCommandIsRead}
use Rattle.relay_lines.proofs.ChunkArgumentLemmas.{decimal_is_chunk_size}

-- an octet that isn't counted ends the count
prefix_len-stays : (p : ℕ → Bool) (octet : ℕ) (one other : List ℕ) → prefix_len p (octet ∷ one) ≡ 0
    → prefix_len p (octet ∷ other) ≡ 0
prefix_len-stays p octet one other none =
    elim (cases_Bool (p octet)) [
      | inl counted ↦
          let some = cond-true (p octet) (1 + prefix_len p one) 0 counted in
          absurd (omega (arith, some, none))
      | inr passed ↦ cond-false (p octet) (1 + prefix_len p other) 0 passed
    ]

-- nothing is counted in a text whose front isn't empty and counts nothing
prefix_len-front_none : (p : ℕ → Bool) (front back : List ℕ) → 1 ≤ length front
    → prefix_len p front ≡ 0 → prefix_len p (front ++ back) ≡ 0
prefix_len-front_none p [] back some none = absurd (omega (arith, some))
prefix_len-front_none p (octet ∷ front) back some none = prefix_len-stays p octet front (front ++ back) none

prefix_len-both_none : (p : ℕ → Bool) (front back : List ℕ) → prefix_len p front ≡ 0
    → prefix_len p back ≡ 0 → prefix_len p (front ++ back) ≡ 0
prefix_len-both_none p [] back none no_more = no_more
prefix_len-both_none p (octet ∷ front) back none no_more = prefix_len-stays p octet front (front ++ back) none

-- no blank is at the end of a text that ends in none
suffix_len-back_none : (front back : List ℕ) → 1 ≤ length back → suffix_len is_blank back ≡ 0
    → suffix_len is_blank (front ++ back) ≡ 0
suffix_len-back_none front back some none =
    let many = length-reverse back in
    ap (prefix_len is_blank) (reverse-append front back)
    ∙ prefix_len-front_none is_blank (reverse back) (reverse front) (omega (arith, many, some)) none

suffix_len-both_none : (front back : List ℕ) → suffix_len is_blank front ≡ 0
    → suffix_len is_blank back ≡ 0 → suffix_len is_blank (front ++ back) ≡ 0
suffix_len-both_none front back none no_more =
    ap (prefix_len is_blank) (reverse-append front back)
    ∙ prefix_len-both_none is_blank (reverse back) (reverse front) no_more none

-- a verb, a space and an argument split at that space
spaced-splits : (verb argument : List ℕ) → AllPass is_no_space verb → 1 ≤ length argument
    → prefix_len is_space argument ≡ 0 → suffix_len is_blank argument ≡ 0
    → SplitsLine (verb ++ codes " " ++ argument) verb argument
spaced-splits verb argument free some begins ends = record {
  spaces = codes " ";
  blanks = [];
  line_is = sym (append-nil (verb ++ codes " " ++ argument));
  word_has_no_space = free;
  are_spaces = AllPass-from_list_all is_space (codes " ") refl;
  are_blanks = AllPass-from_list_all is_blank [] refl;
  apart = λ none. absurd (cc);
  argument_begins_with_no_space = begins;
  text_ends_in_no_blank = suffix_len-back_none (verb ++ codes " ") argument some ends;
}

-- a verb alone splits into itself and no argument
bare-splits : (verb : List ℕ) → AllPass is_no_space verb → suffix_len is_blank verb ≡ 0
    → SplitsLine verb verb []
bare-splits verb free ends = record {
  spaces = [];
  blanks = [];
  line_is = sym (append-nil (verb ++ [] ++ []) ∙ append-nil (verb ++ []) ∙ append-nil verb);
  word_has_no_space = free;
  are_spaces = AllPass-from_list_all is_space [] refl;
  are_blanks = AllPass-from_list_all is_blank [] refl;
  apart = λ none. refl;
  argument_begins_with_no_space = refl;
  text_ends_in_no_blank = ap (suffix_len is_blank) (append-nil (verb ++ []) ∙ append-nil verb) ∙ ends;
}

-- nothing is counted in a text of other octets
prefix_len-graphic : (p : ℕ → Bool) (text : List ℕ)
    → ((octet : ℕ) → is_ascii_graphic octet ≡ true → p octet ≡ false)
    → AllPass is_ascii_graphic text → prefix_len p text ≡ 0
prefix_len-graphic p [] other all = refl
prefix_len-graphic p (octet ∷ text) other all =
    cond-false (p octet) (1 + prefix_len p text) 0 (other octet (all 0 0 (omega arith)))

-- a chunk-size begins with no space, and no blank ends it, nor what stands after it
digit-no_space : (octet : ℕ) → is_ascii_digit octet ≡ true → is_space octet ≡ false
digit-no_space octet digit = grind (arith, nat_tests)

digit-no_blank : (octet : ℕ) → is_ascii_digit octet ≡ true → is_blank octet ≡ false
digit-no_blank octet digit = grind (arith, nat_tests)

prefix_len-digits : (p : ℕ → Bool) (text : List ℕ)
    → ((octet : ℕ) → is_ascii_digit octet ≡ true → p octet ≡ false) → AllPass is_ascii_digit text
    → prefix_len p text ≡ 0
prefix_len-digits p [] other all = refl
prefix_len-digits p (octet ∷ text) other all =
    cond-false (p octet) (1 + prefix_len p text) 0 (other octet (all 0 0 (omega arith)))

after-ends : (last : Bool) (digits after : List ℕ) → suffix_len is_blank digits ≡ 0
    → StandsAfterSize last after → suffix_len is_blank (digits ++ after) ≡ 0
after-ends false digits after ends none =
    ap (suffix_len is_blank) (ap (λ l. digits ++ l) none ∙ append-nil digits) ∙ ends
after-ends true digits after ends marker =
    let word = plain-same marker.word (codes "LAST") refl refl refl refl refl marker.is_last in
    let whole = suffix_len-back_none marker.spaces marker.word word.not_empty word.ends in
    suffix_len-both_none digits after ends (ap (suffix_len is_blank) marker.text_is ∙ whole)

-- a plain word is itself in one letter case
plain-word : (word : List ℕ) → nat_le 1 (length word) ≡ true → list_all is_printable word ≡ true
    → list_all is_no_space word ≡ true → prefix_len is_space word ≡ 0 → suffix_len is_blank word ≡ 0
    → IsPlainWord word
plain-word word some printable free begins ends = plain-same word word some printable free begins ends refl

-- a verb and an argument that spell a command are read as it, one space apart
pub spaced-reads : (verb argument : List ℕ) (command : Command) → IsPlainWord verb
    → 1 ≤ length argument
    → list_all is_printable argument ≡ true → prefix_len is_space argument ≡ 0
    → suffix_len is_blank argument ≡ 0
    → IsSpelled command verb argument → reading_of (verb ++ codes " " ++ argument) ≡ Ok command
spaced-reads verb argument command plain some printable begins ends spelled =
    let free = AllPass-from_list_all is_no_space verb plain.no_space in
    reading-from_reads (verb ++ codes " " ++ argument) command (record {
      word = verb;
      argument = argument;
      splits = spaced-splits verb argument free some begins ends;
      printable = AllPass-from_list_all is_printable (verb ++ argument)
          (list_all-append is_printable verb argument
          ∙ and_from (list_all is_printable verb) (list_all is_printable argument) plain.printable printable);
      spelled = spelled;
    })

-- a verb and a host word
host-reads : (verb host : List ℕ) (command : Command) → IsPlainWord verb → IsHostWord host
    → IsSpelled command verb host → reading_of (verb ++ codes " " ++ host) ≡ Ok command
host-reads verb host command plain is spelled =
    let graphic = host-graphic host is in
    spaced-reads verb host command plain is.not_empty
    (list_all-from_AllPass is_printable host (AllPass-weaker is_ascii_graphic is_printable host graphic-printable graphic))
    (prefix_len-graphic is_space host (λ octet h. not-true (is_space octet) (graphic-no_space octet h)) graphic)
    (prefix_len-graphic is_blank (reverse host) graphic-no_blank (AllPass-reverse is_ascii_graphic host graphic)) spelled

-- a verb alone
bare-reads : (verb : List ℕ) (command : Command) → IsPlainWord verb → IsSpelled command verb []
    → reading_of verb ≡ Ok command
bare-reads verb command plain spelled =
    reading-from_reads verb command (record {
      word = verb;
      argument = [];
      splits = bare-splits verb (AllPass-from_list_all is_no_space verb plain.no_space) plain.ends;
      printable =
          AllPass-from_list_all is_printable (verb ++ [])
          (ap (list_all is_printable) (append-nil verb) ∙ plain.printable);
      spelled = spelled;
    })

-- the end-marker marks the last chunk
marker-stands : (last : Bool) → StandsAfterSize last (end_marker last)
marker-stands false = refl
marker-stands true = record {
  spaces = codes " ";
  word = codes "LAST";
  text_is = refl;
  some = omega arith;
  are_spaces = AllPass-from_list_all is_space (codes " ") refl;
  is_last = refl;
}

marker-short : (last : Bool) → length (end_marker last) ≤ 5
marker-short false = omega arith
marker-short true = omega arith

-- the argument of a BDAT that is written
chunk-spells : (chunk : BdatArgument) → chunk.size < 2 ^ 32
    → SpellsBdat (decimal chunk.size ++ end_marker chunk.last) chunk
chunk-spells chunk small = record {
  digits = decimal chunk.size;
  after = end_marker chunk.last;
  text_is = refl;
  size_is = decimal_is_chunk_size chunk.size small;
  last_is = marker-stands chunk.last;
}

bdat-reads : (chunk : BdatArgument) → chunk.size < 2 ^ 32
    → reading_of (written_command (Bdat chunk)) ≡ Ok (Bdat chunk)
bdat-reads chunk small =
    let digits = decimal chunk.size in
    let after = end_marker chunk.last in
    let size = decimal_is_chunk_size chunk.size small in
    let spells = chunk-spells chunk small in
    let begins = prefix_len-digits is_space digits digit-no_space size.digits in
    let ends =
    prefix_len-digits is_blank (reverse digits) digit-no_blank
    (AllPass-reverse is_ascii_digit digits size.digits) in
    spaced-reads (codes "BDAT") (digits ++ after) (Bdat chunk)
    (plain-word (codes "BDAT") refl refl refl refl refl)
    (omega (arith, size.some, length-append digits after)) (chunk-printable (digits ++ after) chunk spells)
    (prefix_len-front_none is_space digits after size.some begins)
    (after-ends chunk.last digits after ends (marker-stands chunk.last)) (refl, spells)

-- MAIL and RCPT, with what stands after the colon
mail-reads : (text : List ℕ) → MayFollow (codes "MAIL FROM:") text
    → reading_of (codes "MAIL FROM:" ++ text) ≡ Ok (Mail text)
mail-reads text is =
    spaced-reads (codes "MAIL") (codes "FROM:" ++ text) (Mail text)
    (plain-word (codes "MAIL") refl refl refl refl refl)
    (omega (arith, length-append (codes "FROM:") text))
    (list_all-from_AllPass is_printable text is.printable) refl
    (suffix_len-both_none (codes "FROM:") text refl is.ends_in_no_blank)
    (refl, record { front = codes "FROM:"; same = refl; text_is = refl })

rcpt-reads : (text : List ℕ) → MayFollow (codes "RCPT TO:") text
    → reading_of (codes "RCPT TO:" ++ text) ≡ Ok (Rcpt text)
rcpt-reads text is =
    spaced-reads (codes "RCPT") (codes "TO:" ++ text) (Rcpt text)
    (plain-word (codes "RCPT") refl refl refl refl refl)
    (omega (arith, length-append (codes "TO:") text))
    (list_all-from_AllPass is_printable text is.printable) refl
    (suffix_len-both_none (codes "TO:") text refl is.ends_in_no_blank)
    (refl, record { front = codes "TO:"; same = refl; text_is = refl })

-- no CR is among the octets of a line that is read
is_no_cr : ℕ → Bool
is_no_cr octet = not (octet == 13)

all_joined : (front back : List ℕ) → list_all is_no_cr front ≡ true → list_all is_no_cr back ≡ true
    → list_all is_no_cr (front ++ back) ≡ true
all_joined front back h k =
    list_all-append is_no_cr front back ∙ and_from (list_all is_no_cr front) (list_all is_no_cr back) h k

weaker : (p : ℕ → Bool) (text : List ℕ) → ((octet : ℕ) → p octet ≡ true → is_no_cr octet ≡ true)
    → AllPass p text
    → list_all is_no_cr text ≡ true
weaker p text none all = list_all-from_AllPass is_no_cr text (AllPass-weaker p is_no_cr text none all)

printable-no_cr : (octet : ℕ) → is_printable octet ≡ true → is_no_cr octet ≡ true
unfolding is_no_cr
printable-no_cr octet test = grind (arith, nat_tests)

space-no_cr : (octet : ℕ) → is_space octet ≡ true → is_no_cr octet ≡ true
unfolding is_no_cr
space-no_cr octet test = grind (arith, nat_tests)

blank-no_cr : (octet : ℕ) → is_blank octet ≡ true → is_no_cr octet ≡ true
unfolding is_no_cr
blank-no_cr octet test = grind (arith, nat_tests)

split-no_cr : (line word argument : List ℕ) → SplitsLine line word argument
    → AllPass is_printable (word ++ argument)
    → list_all is_no_cr line ≡ true
split-no_cr line word argument split printable =
    let both =
    sym (list_all-append is_no_cr word argument)
    ∙ weaker is_printable (word ++ argument) printable-no_cr printable in
    let parts = and_parts (list_all is_no_cr word) (list_all is_no_cr argument) both in
    let spaces = weaker is_space split.spaces space-no_cr split.are_spaces in
    let blanks = weaker is_blank split.blanks blank-no_cr split.are_blanks in
    let front = all_joined word split.spaces parts.0 spaces in
    let text = all_joined (word ++ split.spaces) argument front parts.1 in
    ap (list_all is_no_cr) split.line_is
    ∙ all_joined (word ++ split.spaces ++ argument) split.blanks text blanks

pub command_has_no_crlf : CommandHasNoCrlf
unfolding is_no_cr
command_has_no_crlf line command read =
    let reads = (reading_is_of_spelling line command).0 read in
    no_cr_is_no_crlf is_no_cr line refl
    (AllPass-from_list_all is_no_cr line (split-no_cr line reads.word reads.argument reads.splits reads.printable))

-- what is read as a command, and is short enough
read_line : (line : List ℕ) (command : Command) → reading_of line ≡ Ok command
    → length line + 2 ≤ 2048 → IsCommandLine line command
read_line line command read short = record {
  is_read = read;
  has_no_crlf = command_has_no_crlf line command read;
  short = short;
}

pub written_command_is_read : WrittenCommandIsRead
written_command_is_read (Helo host) is =
    read_line (codes "HELO " ++ host) (Helo host)
    (host-reads (codes "HELO") host (Helo host) (plain-word (codes "HELO") refl refl refl refl refl) is (refl, is, refl))
    (omega (arith, is.within, length-append (codes "HELO ") host))
written_command_is_read (Ehlo host) is =
    read_line (codes "EHLO " ++ host) (Ehlo host)
    (host-reads (codes "EHLO") host (Ehlo host) (plain-word (codes "EHLO") refl refl refl refl refl) is (refl, is, refl))
    (omega (arith, is.within, length-append (codes "EHLO ") host))
written_command_is_read (Mail text) is =
    read_line (codes "MAIL FROM:" ++ text) (Mail text) (mail-reads text is) is.short
written_command_is_read (Rcpt text) is =
    read_line (codes "RCPT TO:" ++ text) (Rcpt text) (rcpt-reads text is) is.short
written_command_is_read Data is =
    read_line (codes "DATA") Data
    (bare-reads (codes "DATA") Data (plain-word (codes "DATA") refl refl refl refl refl) (refl, refl))
    (omega arith)
written_command_is_read (Bdat chunk) is =
    let digits = decimal chunk.size in
    let after = end_marker chunk.last in
    let size = decimal_is_chunk_size chunk.size is in
    read_line (written_command (Bdat chunk)) (Bdat chunk) (bdat-reads chunk is)
    (omega (arith, size.few, marker-short chunk.last, length-append (codes "BDAT ") (digits ++ after), length-append digits after))
written_command_is_read Rset is =
    read_line (codes "RSET") Rset
    (bare-reads (codes "RSET") Rset (plain-word (codes "RSET") refl refl refl refl refl) (refl, refl))
    (omega arith)
written_command_is_read Noop is =
    read_line (codes "NOOP") Noop
    (bare-reads (codes "NOOP") Noop (plain-word (codes "NOOP") refl refl refl refl refl) refl)
    (omega arith)
written_command_is_read Vrfy is =
    read_line (codes "VRFY") Vrfy
    (bare-reads (codes "VRFY") Vrfy (plain-word (codes "VRFY") refl refl refl refl refl) refl)
    (omega arith)
written_command_is_read Help is =
    read_line (codes "HELP") Help
    (bare-reads (codes "HELP") Help (plain-word (codes "HELP") refl refl refl refl refl) refl)
    (omega arith)
written_command_is_read Quit is =
    read_line (codes "QUIT") Quit
    (bare-reads (codes "QUIT") Quit (plain-word (codes "QUIT") refl refl refl refl refl) (refl, refl))
    (omega arith)
