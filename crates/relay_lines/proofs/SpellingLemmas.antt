-- Command lines in any letter case, and that what is read is spelled so.
use Rattle.std.proofs.Common.{◌≡◌, ℕ, ◌+◌, ◌≤◌, nat_le, not, Bool, true, false, cond, ◌&&◌, ◌||◌, List, [], ◌∷◌, ◌++◌, map, reverse, length, codes, Ok, Err, inl, inr, sym, ap, subst, refl, ◌∙◌, arith}
use Rattle.std.proofs.lemmas.List.{map-append, reverse-append}
use Rattle.std.proofs.lemmas.List.Sums.{list_all-from_AllPass, AllPass-from_list_all}
use Rattle.std.proofs.lemmas.List.Folds.{list_all-append}
use Rattle.std.proofs.lemmas.Bool.{and_from, leb-true}
use Rattle.std.proofs.lemmas.Bool.Decides.{nat_tests}
use Rattle.std.specs.List.{list_all, prefix_len, suffix_len, AllPass}
use Rattle.std.specs.Char.{to_ascii_lowercase, is_ascii_digit}
use Rattle.relay_octets.specs.LetterCase.{IsSameWord}
use Rattle.relay_lines.specs.Word.{is_space, is_no_space, is_blank, is_printable, are_printable, without_trailing_blanks, first_word, argument_of}
use Rattle.relay_lines.specs.declared.command.LineFault.TheVariants.{BadByte}
use Rattle.relay_lines.specs.declared.chunk_argument.BdatArgument.{BdatArgument}
use Rattle.relay_lines.specs.ChunkArgument.{SpellsBdat, StandsAfterSize, bdat_argument_of}
use Rattle.relay_lines.proofs.ChunkArgumentLemmas.{bdat_argument_is_of_spelling}
use Rattle.relay_lines.specs.Command.{Command, is_bdat, reading_of_verb, reading_of_words, reading_of, IsSpelled, ReadsCommand, ReadingIsOfSpelling, LetterCaseIsFree}
use Rattle.relay_lines.proofs.WordLemmas.{length-same_word, AllPass-weaker, line-splits}
use Rattle.relay_lines.proofs.CommandLemmas.{space-printable, bdat_if-ok, is_bdat-same, reading-printable, reading-bdat, cases-printable, reading_is_of_words, verb_of-same, spelled-words, reading-from_reads}

-- a test that doesn't heed the letter case of a letter
printable-lowercase : (octet : ℕ) → is_printable (to_ascii_lowercase octet) ≡ is_printable octet
printable-lowercase octet = grind (arith, nat_tests)

blank-lowercase : (octet : ℕ) → is_blank (to_ascii_lowercase octet) ≡ is_blank octet
blank-lowercase octet = grind (arith, nat_tests)

space-lowercase : (octet : ℕ) → is_space (to_ascii_lowercase octet) ≡ is_space octet
space-lowercase octet = grind (arith, nat_tests)

no_space-lowercase : (octet : ℕ) → is_no_space (to_ascii_lowercase octet) ≡ is_no_space octet
no_space-lowercase octet = ap not (space-lowercase octet)

list_all-lowercase : (p : ℕ → Bool) (text : List ℕ)
    → ((octet : ℕ) → p (to_ascii_lowercase octet) ≡ p octet)
    → list_all p (map to_ascii_lowercase text) ≡ list_all p text
list_all-lowercase p [] free = refl
list_all-lowercase p (octet ∷ text) free =
    ap (λ b. b && list_all p (map to_ascii_lowercase text)) (free octet)
    ∙ ap (λ b. p octet && b) (list_all-lowercase p text free)

prefix_len-lowercase : (p : ℕ → Bool) (text : List ℕ)
    → ((octet : ℕ) → p (to_ascii_lowercase octet) ≡ p octet)
    → prefix_len p (map to_ascii_lowercase text) ≡ prefix_len p text
prefix_len-lowercase p [] free = refl
prefix_len-lowercase p (octet ∷ text) free =
    ap (λ b. cond b (1 + prefix_len p (map to_ascii_lowercase text)) 0) (free octet)
    ∙ ap (λ n. cond (p octet) (1 + n) 0) (prefix_len-lowercase p text free)

map-reverse : (text : List ℕ)
    → map to_ascii_lowercase (reverse text) ≡ reverse (map to_ascii_lowercase text)
map-reverse [] = refl
map-reverse (octet ∷ text) =
    ap (map to_ascii_lowercase) (reverse-append (octet ∷ []) text)
    ∙ map-append to_ascii_lowercase (reverse text) (octet ∷ [])
    ∙ ap (λ l. l ++ (to_ascii_lowercase octet ∷ [])) (map-reverse text)
    ∙ sym (reverse-append (to_ascii_lowercase octet ∷ []) (map to_ascii_lowercase text))

-- words that are the same in any letter case pass alike
list_all-same : (p : ℕ → Bool) (text word : List ℕ)
    → ((octet : ℕ) → p (to_ascii_lowercase octet) ≡ p octet) → IsSameWord text word
    → list_all p text ≡ list_all p word
list_all-same p text word free same =
    sym (list_all-lowercase p text free) ∙ ap (list_all p) same ∙ list_all-lowercase p word free

prefix_len-same : (p : ℕ → Bool) (text word : List ℕ)
    → ((octet : ℕ) → p (to_ascii_lowercase octet) ≡ p octet) → IsSameWord text word
    → prefix_len p text ≡ prefix_len p word
prefix_len-same p text word free same =
    sym (prefix_len-lowercase p text free) ∙ ap (prefix_len p) same ∙ prefix_len-lowercase p word free

reverse-same : (text word : List ℕ) → IsSameWord text word
    → IsSameWord (reverse text) (reverse word)
reverse-same text word same = map-reverse text ∙ ap reverse same ∙ sym (map-reverse word)

printable-same : (word again argument : List ℕ) → IsSameWord word again
    → are_printable (word ++ argument) ≡ are_printable (again ++ argument)
unfolding are_printable
printable-same word again argument same =
    list_all-append is_printable word argument
    ∙ ap (λ b. b && list_all is_printable argument)
    (list_all-same is_printable word again printable-lowercase same)
    ∙ sym (list_all-append is_printable again argument)

words-same : (word again argument : List ℕ) → IsSameWord word again
    → reading_of_words word argument ≡ reading_of_words again argument
unfolding reading_of_words
words-same word again argument same =
    ap (λ found. reading_of_verb found argument) (verb_of-same word again same)

pub letter_case_is_free : LetterCaseIsFree
letter_case_is_free line other word again argument one two same =
    reading_is_of_words line word argument one
    ∙ ap (λ b. cond (b || is_bdat word) (reading_of_words word argument) (Err BadByte))
    (printable-same word again argument same)
    ∙ ap
    (λ b. cond (are_printable (again ++ argument) || b) (reading_of_words word argument) (Err BadByte))
    (is_bdat-same word again same)
    ∙ ap (λ r. cond (are_printable (again ++ argument) || is_bdat again) r (Err BadByte))
    (words-same word again argument same)
    ∙ sym (reading_is_of_words other again argument two)

-- what a verb and a keyword are, in any letter case
pub record IsPlainWord (word : List ℕ) : Type 0 where
  pub not_empty : 1 ≤ length word
  pub printable : list_all is_printable word ≡ true
  pub no_space : list_all is_no_space word ≡ true
  pub begins : prefix_len is_space word ≡ 0
  pub ends : suffix_len is_blank word ≡ 0

pub plain-same : (text word : List ℕ) → nat_le 1 (length word) ≡ true
    → list_all is_printable word ≡ true → list_all is_no_space word ≡ true
    → prefix_len is_space word ≡ 0 → suffix_len is_blank word ≡ 0 → IsSameWord text word
    → IsPlainWord text
plain-same text word some printable free begins ends same = record {
  not_empty = leb-true 1 (length text) (ap (nat_le 1) (length-same_word text word same) ∙ some);
  printable = list_all-same is_printable text word printable-lowercase same ∙ printable;
  no_space = list_all-same is_no_space text word no_space-lowercase same ∙ free;
  begins = prefix_len-same is_space text word space-lowercase same ∙ begins;
  ends =
      prefix_len-same is_blank (reverse text) (reverse word) blank-lowercase
      (reverse-same text word same)
      ∙ ends;
}

-- a digit is printable
pub digit-printable : (octet : ℕ) → is_ascii_digit octet ≡ true → is_printable octet ≡ true
digit-printable octet digit = grind (arith, nat_tests)

-- what stands after a chunk-size is printable, and ends in no blank
pub after-printable : (last : Bool) (after : List ℕ) → StandsAfterSize last after
    → list_all is_printable after ≡ true
after-printable false after none = ap (list_all is_printable) none
after-printable true after marker =
    let word = plain-same marker.word (codes "LAST") refl refl refl refl refl marker.is_last in
    let spaces =
    list_all-from_AllPass is_printable marker.spaces
    (AllPass-weaker is_space is_printable marker.spaces space-printable marker.are_spaces) in
    ap (list_all is_printable) marker.text_is ∙ list_all-append is_printable marker.spaces marker.word
    ∙ and_from (list_all is_printable marker.spaces) (list_all is_printable marker.word) spaces word.printable

pub chunk-printable : (argument : List ℕ) (chunk : BdatArgument) → SpellsBdat argument chunk
    → list_all is_printable argument ≡ true
chunk-printable argument chunk spelled =
    let digits =
    list_all-from_AllPass is_printable spelled.digits
    (AllPass-weaker is_ascii_digit is_printable spelled.digits digit-printable spelled.size_is.digits) in
    ap (list_all is_printable) spelled.text_is ∙ list_all-append is_printable spelled.digits spelled.after
    ∙ and_from (list_all is_printable spelled.digits) (list_all is_printable spelled.after) digits
    (after-printable chunk.last spelled.after spelled.last_is)

pub bdat-printable : (word argument : List ℕ) (chunk : BdatArgument)
    → IsSameWord word (codes "BDAT") → SpellsBdat argument chunk
    → AllPass is_printable (word ++ argument)
bdat-printable word argument chunk same spelled =
    let plain = plain-same word (codes "BDAT") refl refl refl refl refl same in
    AllPass-from_list_all is_printable (word ++ argument)
    (list_all-append is_printable word argument ∙ and_from (list_all is_printable word) (list_all is_printable argument) plain.printable (chunk-printable argument chunk spelled))

reads-from_reading : (line : List ℕ) (command : Command) → reading_of line ≡ Ok command
    → ReadsCommand line command
reads-from_reading line command e =
    let word = first_word (without_trailing_blanks line) in
    let argument = argument_of (without_trailing_blanks line) in
    let split = line-splits line in
    elim (cases-printable line word argument split) [
      | inl all ↦ record {
        word = word;
        argument = argument;
        splits = split;
        printable = all;
        spelled =
            spelled-words word argument command
            (sym (reading-printable line word argument split all) ∙ e);
      }
      | inr (inl bdat) ↦
          let chunk =
          bdat_if-ok (bdat_argument_of argument) command
          (sym (reading-bdat line word argument split bdat) ∙ e) in
          let spelled = (bdat_argument_is_of_spelling argument chunk.0).0 chunk.1 in
          record {
            word = word;
            argument = argument;
            splits = split;
            printable = bdat-printable word argument chunk.0 bdat spelled;
            spelled = subst (λ c. IsSpelled c word argument) chunk.2 (bdat, spelled);
          }
      | inr (inr bad) ↦ absurd (let clash = sym bad ∙ e in cc)
    ]

pub reading_is_of_spelling : ReadingIsOfSpelling
reading_is_of_spelling line command = (reads-from_reading line command, reading-from_reads line command)
