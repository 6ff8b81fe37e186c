-- Lines: a keyword and its operands.
use Rattle.std.proofs.Common.{◌≡◌, ℕ, List, [], ◌∷◌, ◌++◌, map, Option, Some, None, refl, sym, ap, subst, ◌∙◌}
use Rattle.std.proofs.lemmas.List.{append_cancel_left}
use Rattle.std.specs.List.{join_with_byte}
use Rattle.std.specs.Option.{MatchOption}
use Rattle.relay_script.specs.Line.{Operand, IsOperand, AreOperands, SpellsWords}
use Rattle.relay_script.specs.Reading.{kind_of, Kind, IsNotAfter, LacksOperand, LacksOperands, LacksWords, SpellsOperands, StandsAfter}
use Rattle.relay_script.proofs.OperandLemmas.{no_operand, one_operand}

-- operands after a keyword
pub operands_after : (keyword text rest : List ℕ) (first : Operand) (more : List Operand) → StandsAfter keyword text rest
    → SpellsOperands rest (first ∷ more) → SpellsWords text keyword (first ∷ more)
operands_after keyword text rest first more stands spells = by_words spells.words spells.are_operands spells.text_is
  where
    by_words : (words : List (List ℕ)) → AreOperands words (first ∷ more) → rest ≡ join_with_byte 32 words
        → SpellsWords text keyword (first ∷ more)
    by_words [] are is = absurd are
    by_words (word ∷ words) are is = record {
      words = word ∷ words;
      are_operands = are;
      text_is = stands.text_is ∙ ap (λ l. keyword ++ 32 ∷ l) is;
    }

word_after : (keyword text rest : List ℕ) (operand : Operand) → StandsAfter keyword text rest → IsOperand rest operand
    → SpellsWords text keyword (operand ∷ [])
word_after keyword text rest operand stands is =
    operands_after keyword text rest operand [] stands (one_operand rest operand is)

-- what stands after the keyword of operands
pub record After (keyword text : List ℕ) (operands : List Operand) : Type 0 where
  pub rest : List ℕ
  pub text_is : text ≡ keyword ++ 32 ∷ rest
  pub spells : SpellsOperands rest operands

pub after_keyword : (keyword text : List ℕ) (first : Operand) (more : List Operand) → SpellsWords text keyword (first ∷ more)
    → After keyword text (first ∷ more)
after_keyword keyword text first more spells = by_words spells.words spells.are_operands spells.text_is
  where
    by_words : (words : List (List ℕ)) → AreOperands words (first ∷ more) → text ≡ join_with_byte 32 (keyword ∷ words)
        → After keyword text (first ∷ more)
    by_words [] are is = absurd are
    by_words (word ∷ words) are is = record {
      rest = join_with_byte 32 (word ∷ words);
      text_is = is;
      spells = record { words = word ∷ words; are_operands = are; text_is = refl };
    }

-- what operands after a keyword would have to be
lacks_by : (keyword text : List ℕ) (kind : Kind) (kinds : List Kind)
    → ((operands : List Operand) → map kind_of operands ≡ kind ∷ kinds → After keyword text operands → ⊥)
    → LacksWords keyword (kind ∷ kinds) text
lacks_by keyword text kind kinds absent = record { absent = λ operands same spells. by_operands operands same spells }
  where
    by_operands : (operands : List Operand) → map kind_of operands ≡ kind ∷ kinds → SpellsWords text keyword operands → ⊥
    by_operands [] same spells = cc
    by_operands (first ∷ more) same spells = absent (first ∷ more) same (after_keyword keyword text first more spells)

pub no_words_after : (keyword text : List ℕ) (kind : Kind) (kinds : List Kind) → IsNotAfter keyword text
    → LacksWords keyword (kind ∷ kinds) text
no_words_after keyword text kind kinds other =
    lacks_by keyword text kind kinds (λ operands same stands. other.absent stands.rest stands.text_is)

pub no_operands_after : (keyword text rest : List ℕ) (kind : Kind) (kinds : List Kind) → StandsAfter keyword text rest
    → LacksOperands (kind ∷ kinds) rest → LacksWords keyword (kind ∷ kinds) text
no_operands_after keyword text rest kind kinds stands lacks =
    lacks_by keyword text kind kinds
    (λ operands same after.
    let rest_is : after.rest ≡ rest =
    ap (λ l. tail l) (append_cancel_left keyword (32 ∷ after.rest) (32 ∷ rest) (sym after.text_is ∙ stands.text_is)) in
    let P : List ℕ → Type 0 = λ w. SpellsOperands w operands in
    lacks.absent operands same (subst P rest_is after.spells))
  where
    tail : List ℕ → List ℕ
    tail [] = []
    tail (octet ∷ rest) = rest

no_word_after : (keyword text rest : List ℕ) (kind : Kind) → StandsAfter keyword text rest → LacksOperand kind rest
    → LacksWords keyword (kind ∷ []) text
no_word_after keyword text rest kind stands lacks =
    no_operands_after keyword text rest kind [] stands (no_operand rest kind lacks)

-- what is read of the text after a keyword
pub one_after : (keyword text rest : List ℕ) (kind : Kind) (operand : ℕ → Operand) (read : Option ℕ) → StandsAfter keyword text rest
    → MatchOption read (LacksOperand kind rest) (λ x. IsOperand rest (operand x))
    → MatchOption read (LacksWords keyword (kind ∷ []) text) (λ x. SpellsWords text keyword (operand x ∷ []))
one_after keyword text rest kind operand None stands lacks = no_word_after keyword text rest kind stands lacks
one_after keyword text rest kind operand (Some x) stands is = word_after keyword text rest (operand x) stands is

-- operands after a keyword, or none
pub ruleset several_after = (no_words_after, no_operands_after, operands_after)
