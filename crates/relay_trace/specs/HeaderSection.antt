-- The header section (RFC 5322, section 2.2): the lines of a text before its first empty line.
use Rattle.std.specs.Prelude.{◌≡◌, ◌≢◌, ◌↔◌, ℕ, ◌+◌, ◌==◌, ◌&&◌, Bool, IsTrue, if◌then◌else◌, List, [], ◌∷◌, ◌++◌}
use Rattle.std.specs.Prelude.{length, take, min, codes}
use Rattle.std.specs.List.{AllByRecursion, count_by}
use Rattle.std.specs.Str.{str_eq_ignore_ascii_case}
use Rattle.relay_octets.specs.LetterCase.{IsSameWord}
use Rattle.relay_octets.specs.Line.{crlf, HasNoCrlf, AreLines, lines_text}

-- The lines of a text. Octets after its last CR LF are a line too.
pub record HasLines (text : List ℕ) (lines : List (List ℕ)) : Type 0 where
  pub text_is : text ++ crlf ≡ lines_text lines
  pub each : AreLines lines

-- the lines with this octet before the first one
abbrev pub before_lines : ℕ → List (List ℕ) → List (List ℕ)
before_lines octet [] = []
before_lines octet (line ∷ lines) = (octet ∷ line) ∷ lines

-- a text cut at each CR LF
unfoldable pub lines_of : List ℕ → List (List ℕ)
lines_of [] = [] ∷ []
lines_of (octet ∷ []) = (octet ∷ []) ∷ []
lines_of (octet ∷ next ∷ rest) =
    if octet == 13 && next == 10 then [] ∷ lines_of rest else before_lines octet (lines_of (next ∷ rest))

-- the lines before the first empty one
abbrev pub before_empty : List (List ℕ) → List (List ℕ)
before_empty [] = []
before_empty ([] ∷ lines) = []
before_empty ((octet ∷ octets) ∷ lines) = (octet ∷ octets) ∷ before_empty lines

-- a line is a field of this name: it begins with it and a colon, in any letter case
unfoldable pub is_received : List ℕ → Bool
is_received line = str_eq_ignore_ascii_case (take 9 line) (codes "Received:")

-- how many lines of the header section begin with `Received:`
unfoldable pub received_count_of : List ℕ → ℕ
received_count_of text = count_by is_received (before_empty (lines_of text))

-- the index of the first empty line, after the lines before it, or the text's length if there is none
unfoldable pub header_end_of : List ℕ → ℕ
header_end_of text = min (length (lines_text (before_empty (lines_of text)))) (length text)

-- a line, without its CR LF, that isn't empty
pub record IsFilledLine (line : List ℕ) : Type 0 where
  pub no_crlf : HasNoCrlf line
  pub not_empty : line ≢ []

-- whole lines, none of them empty
pub record AreFields (text : List ℕ) : Type 0 where
  pub lines : List (List ℕ)
  pub text_is : text ≡ lines_text lines
  pub each : AllByRecursion IsFilledLine lines

-- the line begins with `Received:`, in any letter case
pub record BeginsWithReceived (line : List ℕ) : Type 0 where
  pub name : List ℕ
  pub rest : List ℕ
  pub line_is : line ≡ name ++ rest
  pub same : IsSameWord name (codes "Received:")

-- A text splits into its lines in one way.
abbrev pub LinesAreOne : Type 0
LinesAreOne = (text : List ℕ) (lines : List (List ℕ)) → HasLines text lines ↔ (lines ≡ lines_of text)

-- The test of a line passes exactly if it begins with `Received:`.
abbrev pub ReceivedIsTested : Type 0
ReceivedIsTested = (line : List ℕ) → IsTrue (is_received line) ↔ BeginsWithReceived line

-- Lines that aren't empty belong to the header section, and it goes on after them.
abbrev pub HeaderGoesOn : Type 0
HeaderGoesOn =
    (lines : List (List ℕ)) (rest : List ℕ) → AllByRecursion IsFilledLine lines
    → (received_count_of (lines_text lines ++ rest) ≡ count_by is_received lines + received_count_of rest)
    × (header_end_of (lines_text lines ++ rest) ≡ length (lines_text lines) + header_end_of rest)

-- The header section ends at an empty line, whatever follows.
abbrev pub HeaderEndsAtEmptyLine : Type 0
HeaderEndsAtEmptyLine =
    (rest : List ℕ) → (received_count_of (crlf ++ rest) ≡ 0) × (header_end_of (crlf ++ rest) ≡ 0)

-- Octets after the last CR LF are a line of the header section too.
abbrev pub HeaderEndsWithText : Type 0
HeaderEndsWithText =
    (last : List ℕ) → HasNoCrlf last
    → (received_count_of last ≡ (if is_received last then 1 else 0)) × (header_end_of last ≡ length last)
