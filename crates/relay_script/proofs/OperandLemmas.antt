-- Operands, one space apart: what is spelled, and what isn't.
use Rattle.std.proofs.Common.{◌≡◌, ℕ, ◌+◌, Bool, true, false, List, [], ◌∷◌, ◌++◌, map, refl, sym, ap, subst, ◌∙◌, arith}
use Rattle.std.proofs.lemmas.Bool.{and_parts, and_from, false≢true}
use Rattle.std.proofs.lemmas.Bool.Decides.{nat_tests}
use Rattle.std.proofs.lemmas.List.Sums.{list_all-from_AllPass}
use Rattle.std.specs.Char.{is_ascii_digit}
use Rattle.std.specs.List.{join_with_byte, list_all}
use Rattle.relay_script.specs.Line.{Operand, IsOperand, AreOperands}
use Rattle.relay_script.specs.Line.Operand.{Node, Number, Count, Time, Text}
use Rattle.relay_script.specs.Reading.{kind_of, Kind, CutsWord, HasNoSpace, LacksOperand, LacksOperands, SpellsOperands, is_no_space}
use Rattle.relay_script.specs.Reading.Kind.{NodeKind, NumberKind, CountKind, TimeKind, TextKind}
use Rattle.relay_script.proofs.WordLemmas.{one_cut, space_stands}

-- a kind of operands whose words have no space
abbrev pub is_word_kind : Kind → Bool
is_word_kind NodeKind = true
is_word_kind NumberKind = true
is_word_kind CountKind = true
is_word_kind TimeKind = true
is_word_kind TextKind = false

-- a digit is no space
digit_no_space : (octet : ℕ) → is_ascii_digit octet ≡ true → is_no_space octet ≡ true
digit_no_space octet digit = grind (arith, nat_tests)

digits_free : (word : List ℕ) → list_all is_ascii_digit word ≡ true → list_all is_no_space word ≡ true
digits_free [] digits = refl
digits_free (octet ∷ word) digits =
    let parts = and_parts (is_ascii_digit octet) (list_all is_ascii_digit word) digits in
    and_from (is_no_space octet) (list_all is_no_space word) (digit_no_space octet parts.0) (digits_free word parts.1)

letter_free : (index : ℕ) → is_no_space (97 + index) ≡ true
letter_free index = grind (arith, nat_tests)

-- no space stands in the word of an operand but of a text
word_free : (word : List ℕ) (operand : Operand) (kind : Kind) → is_word_kind kind ≡ true → kind_of operand ≡ kind
    → IsOperand word operand
    → list_all is_no_space word ≡ true
word_free word (Node index) kind is_word same is =
    ap (list_all is_no_space) is.letter ∙ and_from (is_no_space (97 + index)) true (letter_free index) refl
word_free word (Number number) kind is_word same is = digits_free word (list_all-from_AllPass is_ascii_digit word is.digits)
word_free word (Count count) kind is_word same is = digits_free word (list_all-from_AllPass is_ascii_digit word is.number.digits)
word_free word (Time seconds) kind is_word same is = digits_free word (list_all-from_AllPass is_ascii_digit word is.number.digits)
word_free word (Text octets) kind is_word same is = absurd (false≢true (ap is_word_kind same ∙ is_word))

-- the first word of several operands, and the rest
pub record FirstAndRest (text : List ℕ) (first : Operand) (more : List Operand) : Type 0 where
  pub word : List ℕ
  pub rest : List ℕ
  pub text_is : text ≡ word ++ 32 ∷ rest
  pub first_is : IsOperand word first
  pub rest_is : SpellsOperands rest more

pub first_and_more : (text : List ℕ) (first second : Operand) (more : List Operand) → SpellsOperands text (first ∷ second ∷ more)
    → FirstAndRest text first (second ∷ more)
first_and_more text first second more spells = by_words spells.words spells.are_operands spells.text_is
  where
    by_words : (words : List (List ℕ)) → AreOperands words (first ∷ second ∷ more) → text ≡ join_with_byte 32 words
        → FirstAndRest text first (second ∷ more)
    by_words [] are is = absurd are
    by_words (word ∷ []) are is = absurd are.1
    by_words (word ∷ next ∷ words) are is = record {
      word = word;
      rest = join_with_byte 32 (next ∷ words);
      text_is = is;
      first_is = are.0;
      rest_is = record { words = next ∷ words; are_operands = are.1; text_is = refl };
    }

-- an operand after another
pub first_and_rest : (text word rest : List ℕ) (first second : Operand) (more : List Operand) → CutsWord text word rest
    → IsOperand word first
    → SpellsOperands rest (second ∷ more) → SpellsOperands text (first ∷ second ∷ more)
first_and_rest text word rest first second more cuts is spells = by_words spells.words spells.are_operands spells.text_is
  where
    by_words : (words : List (List ℕ)) → AreOperands words (second ∷ more) → rest ≡ join_with_byte 32 words
        → SpellsOperands text (first ∷ second ∷ more)
    by_words [] are same = absurd are
    by_words (next ∷ words) are same = record {
      words = word ∷ next ∷ words;
      are_operands = (is, are);
      text_is = cuts.text_is ∙ ap (λ l. word ++ 32 ∷ l) same;
    }

-- one operand
pub one_operand : (word : List ℕ) (operand : Operand) → IsOperand word operand → SpellsOperands word (operand ∷ [])
one_operand word operand is = record { words = word ∷ []; are_operands = (is, tt); text_is = refl }

-- the word of one operand
pub word_of_one : (text : List ℕ) (operand : Operand) → SpellsOperands text (operand ∷ []) → IsOperand text operand
word_of_one text operand spells = by_words spells.words spells.are_operands spells.text_is
  where
    by_words : (words : List (List ℕ)) → AreOperands words (operand ∷ []) → text ≡ join_with_byte 32 words
        → IsOperand text operand
    by_words [] are is = absurd are
    by_words (word ∷ []) are is = let P : List ℕ → Type 0 = λ w. IsOperand w operand in subst P (sym is) are.0
    by_words (word ∷ next ∷ words) are is = absurd are.1

pub first_and_last : (text word rest : List ℕ) (first second : Operand) → CutsWord text word rest → IsOperand word first
    → IsOperand rest second → SpellsOperands text (first ∷ second ∷ [])
first_and_last text word rest first second cuts is last =
    first_and_rest text word rest first second [] cuts is (one_operand rest second last)

-- what several operands would have to be
lacks_by : (text : List ℕ) (kind next : Kind) (kinds : List Kind)
    → ((first second : Operand) (more : List Operand) → kind_of first ≡ kind → map kind_of
    (second ∷ more) ≡ next ∷ kinds → FirstAndRest text first (second ∷ more) → ⊥)
    → LacksOperands (kind ∷ next ∷ kinds) text
lacks_by text kind next kinds absent = record { absent = λ operands same spells. by_operands operands same spells }
  where
    by_operands : (operands : List Operand) → map kind_of operands ≡ kind ∷ next ∷ kinds → SpellsOperands text operands → ⊥
    by_operands [] same spells = cc
    by_operands (first ∷ []) same spells = cc
    by_operands (first ∷ second ∷ more) same spells =
        absent first second more (let one : kind_of first ≡ kind = cc in one)
        (let others : map kind_of (second ∷ more) ≡ next ∷ kinds = cc in others) (first_and_more text first second more spells)

-- the cut that operands make
pub cut_of : (text : List ℕ) (kind : Kind) (first : Operand) (more : List Operand) → is_word_kind kind ≡ true
    → kind_of first ≡ kind
    → (parts : FirstAndRest text first more) → CutsWord text parts.word parts.rest
cut_of text kind first more is_word same parts = record {
  free = word_free parts.word first kind is_word same parts.first_is;
  text_is = parts.text_is;
}

pub no_first_cut : (text : List ℕ) (kind next : Kind) (kinds : List Kind) → HasNoSpace text → is_word_kind kind ≡ true
    → LacksOperands (kind ∷ next ∷ kinds) text
no_first_cut text kind next kinds none is_word =
    lacks_by text kind next kinds
    (λ first second more same others parts. space_stands text parts.word parts.rest none
    (cut_of text kind first (second ∷ more) is_word same parts))

pub no_first : (text word rest : List ℕ) (kind next : Kind) (kinds : List Kind) → CutsWord text word rest → LacksOperand kind word
    → is_word_kind kind ≡ true → LacksOperands (kind ∷ next ∷ kinds) text
no_first text word rest kind next kinds cuts lacks is_word =
    lacks_by text kind next kinds
    (λ first second more same others parts.
    let one = one_cut text word parts.word rest parts.rest cuts (cut_of text kind first (second ∷ more) is_word same parts) in
    let P : List ℕ → Type 0 = λ w. IsOperand w first in
    lacks.absent first same (subst P (sym one.0) parts.first_is))

pub no_rest : (text word rest : List ℕ) (kind next : Kind) (kinds : List Kind) → CutsWord text word rest
    → LacksOperands (next ∷ kinds) rest
    → is_word_kind kind ≡ true → LacksOperands (kind ∷ next ∷ kinds) text
no_rest text word rest kind next kinds cuts lacks is_word =
    lacks_by text kind next kinds
    (λ first second more same others parts.
    let one = one_cut text word parts.word rest parts.rest cuts (cut_of text kind first (second ∷ more) is_word same parts) in
    let P : List ℕ → Type 0 = λ w. SpellsOperands w (second ∷ more) in
    lacks.absent (second ∷ more) others (subst P (sym one.1) parts.rest_is))

-- one operand that isn't there
pub no_operand : (text : List ℕ) (kind : Kind) → LacksOperand kind text → LacksOperands (kind ∷ []) text
no_operand text kind lacks = record { absent = λ operands same spells. by_operands operands same spells }
  where
    by_operands : (operands : List Operand) → map kind_of operands ≡ kind ∷ [] → SpellsOperands text operands → ⊥
    by_operands [] same spells = cc
    by_operands (operand ∷ []) same spells =
        lacks.absent operand (let one : kind_of operand ≡ kind = cc in one) (word_of_one text operand spells)
    by_operands (first ∷ second ∷ more) same spells = cc

pub no_last : (text word rest : List ℕ) (kind next : Kind) → CutsWord text word rest → LacksOperand next rest
    → is_word_kind kind ≡ true → LacksOperands (kind ∷ next ∷ []) text
no_last text word rest kind next cuts lacks is_word = no_rest text word rest kind next [] cuts
    (no_operand rest next lacks) is_word

-- an operand, a space and others
pub ruleset first_and_others = (no_first_cut, no_first, no_rest, no_last, first_and_rest, first_and_last)
