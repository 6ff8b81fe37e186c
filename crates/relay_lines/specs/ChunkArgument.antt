-- The argument of BDAT (RFC 3030, section 2): its chunk-size, and LAST at the last chunk of a
-- message.
use Rattle.std.specs.Prelude.{◌≡◌, ◌↔◌, ℕ, ◌<◌, ◌≤◌, ◌^◌, ◌==◌, nat_lt, Bool, true, false, IsTrue, ◌&&◌, List, [], ◌++◌}
use Rattle.std.specs.Prelude.{codes, decimal, length, take, Option, Some, None, option_map, if◌then◌else◌}
use Rattle.std.specs.List.{list_all, AllPass}
use Rattle.std.specs.Int.{is_in_range}
use Rattle.std.specs.Char.{is_ascii_digit}
use Rattle.std.specs.Str.Parse.{digits_value}
use Rattle.relay_octets.specs.LetterCase.{IsSameWord}
use Rattle.relay_lines.specs.Word.{is_space, is_word, first_word, argument_of}
use Rattle.relay_lines.specs.declared.chunk_argument.BdatArgument.{BdatArgument}

-- chunk-size ::= 1*DIGIT; profile: 1 to 10 digits, leading zeros among them, that write at most
-- 4,294,967,295
pub record IsChunkSize (text : List ℕ) (size : ℕ) : Type 0 where
  pub some : 1 ≤ length text
  pub few : length text ≤ 10
  pub digits : AllPass is_ascii_digit text
  pub value : digits_value 10 text ≡ size
  pub fits : size < 2 ^ 32

-- SP end-marker: LAST, in any letter case; profile: where one space stands, several may
pub record IsEndMarker (text : List ℕ) : Type 0 where
  pub spaces : List ℕ
  pub word : List ℕ
  pub text_is : text ≡ spaces ++ word
  pub some : 1 ≤ length spaces
  pub are_spaces : AllPass is_space spaces
  pub is_last : IsSameWord word (codes "LAST")

-- what is after the chunk-size: nothing, or the end-marker at the last chunk
abbrev pub StandsAfterSize : Bool → List ℕ → Type 0
StandsAfterSize false after = after ≡ []
StandsAfterSize true after = IsEndMarker after

-- the text spells this argument: a chunk-size, and the end-marker at the last chunk
pub record SpellsBdat (text : List ℕ) (argument : BdatArgument) : Type 0 where
  pub digits : List ℕ
  pub after : List ℕ
  pub text_is : text ≡ digits ++ after
  pub size_is : IsChunkSize digits argument.size
  pub last_is : StandsAfterSize argument.last after

-- each octet is a digit
unfoldable pub are_digits : List ℕ → Bool
are_digits text = list_all is_ascii_digit text

-- the text is 1 to 10 digits
unfoldable pub are_size_digits : List ℕ → Bool
are_size_digits text = is_in_range 1 10 (length text) && are_digits text

-- the number of digits, if it is a chunk-size
unfoldable pub size_of_digits : List ℕ → Option ℕ
size_of_digits digits =
    let size = digits_value 10 digits in if nat_lt size 4294967296 then Some size else None

-- the chunk-size that a text is
unfoldable pub chunk_size_of : List ℕ → Option ℕ
chunk_size_of text = if are_size_digits text then size_of_digits text else None

-- an argument with this size
abbrev pub with_size : Bool → ℕ → BdatArgument
with_size last size = record { size = size; last = last }

-- the argument that a text spells
unfoldable pub bdat_argument_of : List ℕ → Option BdatArgument
bdat_argument_of text =
    if length (first_word text) == length text then option_map (with_size false) (chunk_size_of text)
    else if is_word (argument_of text) (codes "LAST")
    then option_map (with_size true) (chunk_size_of (first_word text))
    else None

-- the line begins with BDAT, in any letter case, and a space
pub record BeginsWithBdat (line : List ℕ) : Type 0 where
  pub word : List ℕ
  pub rest : List ℕ
  pub same : IsSameWord word (codes "BDAT")
  pub line_is : line ≡ word ++ codes " " ++ rest

-- the first five octets of the line are BDAT, in any letter case, and a space
unfoldable pub begins_with_bdat : List ℕ → Bool
begins_with_bdat line = is_word (take 5 line) (codes "BDAT ")

-- What is read is spelled so, and what is spelled so is read.
abbrev pub BdatArgumentIsOfSpelling : Type 0
BdatArgumentIsOfSpelling =
    (text : List ℕ) (argument : BdatArgument)
    → (bdat_argument_of text ≡ Some argument) ↔ SpellsBdat text argument

-- A text spells one argument at most.
abbrev pub OneBdatArgument : Type 0
OneBdatArgument =
    (text : List ℕ) (argument other : BdatArgument) → SpellsBdat text argument → SpellsBdat text other
    → argument ≡ other

-- A text that begins with more than 10 digits spells none, whatever number they write.
abbrev pub ElevenDigitsAreTooMany : Type 0
ElevenDigitsAreTooMany =
    (digits after : List ℕ) → AllPass is_ascii_digit digits → 10 < length digits
    → (argument : BdatArgument) → ¬ SpellsBdat (digits ++ after) argument

-- A zero before the digits of a chunk-size says nothing, as long as there are at most 10 digits.
abbrev pub LeadingZeroSaysNothing : Type 0
LeadingZeroSaysNothing =
    (digits : List ℕ) (size : ℕ) → IsChunkSize digits size → length digits < 10
    → IsChunkSize (codes "0" ++ digits) size

-- The decimal of a number of 32 bits is its chunk-size.
abbrev pub DecimalIsChunkSize : Type 0
DecimalIsChunkSize = (size : ℕ) → size < 2 ^ 32 → IsChunkSize (decimal size) size

-- The test of BDAT passes exactly if a line begins with it.
abbrev pub BdatBeginningIsTested : Type 0
BdatBeginningIsTested = (line : List ℕ) → IsTrue (begins_with_bdat line) ↔ BeginsWithBdat line
