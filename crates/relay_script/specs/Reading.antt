-- What the parts of the reader find in a text, or miss.
use Rattle.std.specs.Prelude.{◌≡◌, ◌≢◌, ℕ, ◌<◌, ◌^◌, Bool, true, not, ◌&&◌, ◌==◌, List, [], ◌∷◌, ◌++◌, codes, map}
use Rattle.std.specs.Prelude.{length}
use Rattle.std.specs.List.{join_with_byte, list_all}
use Rattle.std.specs.Char.{is_ascii_digit}
use Rattle.std.specs.Int.{is_in_range}
use Rattle.relay_script.specs.Text.{digit_of, is_plain, spelled_octet}
use Rattle.relay_script.specs.Line.{Operand, IsOperand, AreOperands, SpellsWords}
use Rattle.relay_script.specs.Line.Operand.{Node, Number, Count, Time, Text}

-- the kinds of operands
pub data Kind : Type 0 where
  NodeKind : Kind
  NumberKind : Kind
  CountKind : Kind
  TimeKind : Kind
  TextKind : Kind

-- the kind of an operand
abbrev pub kind_of : Operand → Kind
kind_of (Node index) = NodeKind
kind_of (Number number) = NumberKind
kind_of (Count count) = CountKind
kind_of (Time seconds) = TimeKind
kind_of (Text octets) = TextKind

-- the word spells no operand of that kind
pub record LacksOperand (kind : Kind) (word : List ℕ) : Type 0 where
  pub absent : (operand : Operand) → kind_of operand ≡ kind → ¬ IsOperand word operand

-- the text is the words of the operands, one space apart
pub record SpellsOperands (text : List ℕ) (operands : List Operand) : Type 0 where
  pub words : List (List ℕ)
  pub are_operands : AreOperands words operands
  pub text_is : text ≡ join_with_byte 32 words

-- the text spells no operands of those kinds
pub record LacksOperands (kinds : List Kind) (text : List ℕ) : Type 0 where
  pub absent : (operands : List Operand) → map kind_of operands ≡ kinds → ¬ SpellsOperands text operands

-- the text isn't the keyword and operands of those kinds
pub record LacksWords (keyword : List ℕ) (kinds : List Kind) (text : List ℕ) : Type 0 where
  pub absent : (operands : List Operand) → map kind_of operands ≡ kinds → ¬ SpellsWords text keyword operands

-- the text is the keyword, a space and the rest
pub record StandsAfter (keyword text rest : List ℕ) : Type 0 where
  pub text_is : text ≡ keyword ++ 32 ∷ rest

-- the text doesn't begin with the keyword and a space
pub record IsNotAfter (keyword text : List ℕ) : Type 0 where
  pub absent : (rest : List ℕ) → text ≢ keyword ++ 32 ∷ rest

-- not a space
abbrev pub is_no_space : ℕ → Bool
is_no_space octet = not (octet == 32)

-- no space is in the text
pub record HasNoSpace (text : List ℕ) : Type 0 where
  pub free : list_all is_no_space text ≡ true

-- the text is a word without a space, a space, and the rest
pub record CutsWord (text word rest : List ℕ) : Type 0 where
  pub free : list_all is_no_space word ≡ true
  pub text_is : text ≡ word ++ 32 ∷ rest

-- the word is 1 to 18 digits
unfoldable pub are_number_digits : List ℕ → Bool
are_number_digits word = is_in_range 1 18 (length word) && list_all is_ascii_digit word

-- the text begins with the spelling of an octet, and the rest follows
pub record BeginsWithOctet (text : List ℕ) (octet : ℕ) (rest : List ℕ) : Type 0 where
  pub within : octet < 2 ^ 8
  pub text_is : text ≡ spelled_octet octet ++ rest

-- the text begins with the spelling of no octet
pub record BeginsWithNoOctet (text : List ℕ) : Type 0 where
  pub absent : (octet : ℕ) (rest : List ℕ) → ¬ BeginsWithOctet text octet rest

-- the octet is spelled by `\x` and two digits
abbrev pub has_code : ℕ → Bool
has_code octet = not (is_plain octet) && not (octet == 13) && not (octet == 10)

-- the octet is the digit of a value
pub record IsDigitOf (octet value : ℕ) : Type 0 where
  pub within : value < 16
  pub digit : digit_of value ≡ octet

-- the octet is no value's digit
pub record IsNoDigit (octet : ℕ) : Type 0 where
  pub absent : (value : ℕ) → ¬ IsDigitOf octet value

-- the text withdraws no place
pub record SpellsNoWithdrawal (text : List ℕ) : Type 0 where
  pub returned : LacksWords (codes "return") (NodeKind ∷ NumberKind ∷ NumberKind ∷ []) text
  pub discarded : LacksWords (codes "discard") (NodeKind ∷ NumberKind ∷ NumberKind ∷ []) text

-- the text is no event but perhaps octets that are written on a link
pub record SpellsNoEvent (text : List ℕ) : Type 0 where
  pub connect : LacksWords (codes "connect") (NodeKind ∷ []) text
  pub carry : LacksWords (codes "carry") (NumberKind ∷ NodeKind ∷ NumberKind ∷ []) text
  pub break : LacksWords (codes "break") (NumberKind ∷ []) text
  pub tick : LacksWords (codes "tick") (TimeKind ∷ []) text
  pub give : LacksWords (codes "give") (NodeKind ∷ []) text
  pub compact : LacksWords (codes "compact") (NodeKind ∷ []) text
  pub stop : LacksWords (codes "stop") (NodeKind ∷ NumberKind ∷ NumberKind ∷ []) text
  pub withdrawal : SpellsNoWithdrawal text

-- the text asks for nothing
pub record SpellsNoQuestion (text : List ℕ) : Type 0 where
  pub ledger : LacksWords (codes "ledger") [] text
  pub marks : LacksWords (codes "marks") [] text
  pub copies : LacksWords (codes "copies") (NodeKind ∷ NumberKind ∷ NumberKind ∷ []) text
  pub lost : LacksWords (codes "lost") (NodeKind ∷ NumberKind ∷ NumberKind ∷ []) text
