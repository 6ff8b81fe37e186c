-- What a terminal gets of mail: printable ASCII, and the line feeds of the view itself.
use Rattle.std.specs.Prelude.{◌≡◌, ℕ, zero, suc, ◌+◌, ◌/◌, ◌%◌, ◌==◌, nat_lt, Bool, true, ◌||◌, List, [], ◌∷◌, ◌++◌}
use Rattle.std.specs.Prelude.{if◌then◌else◌}
use Rattle.std.specs.List.{flat_map, list_all}
use Rattle.relay_octets.specs.Line.{AreLines, HasNoCrlf, lines_text}
use Rattle.relay_lines.specs.Word.{is_printable}

-- an octet that doesn't control a terminal: printable ASCII or a line feed
abbrev pub is_safe : ℕ → Bool
is_safe octet = is_printable octet || octet == 10

abbrev pub AreSafe : List ℕ → Type 0
AreSafe text = list_all is_safe text ≡ true

-- a lower-case hexadecimal digit
abbrev pub hex_digit : ℕ → ℕ
hex_digit digit = if nat_lt digit 10 then 48 + digit else 87 + digit

-- profile: an octet that isn't printable, as \xHH
abbrev pub escape : ℕ → List ℕ
escape octet = 92 ∷ 120 ∷ hex_digit (octet / 16) ∷ hex_digit (octet % 16) ∷ []

-- an octet of mail as a terminal shows it
abbrev pub shown_octet : ℕ → List ℕ
shown_octet octet = if is_printable octet then octet ∷ [] else escape octet

-- octets of mail as a terminal shows them
abbrev pub shown : List ℕ → List ℕ
shown octets = flat_map shown_octet octets

-- octets in which each LF ends a line
abbrev pub shown_lines : List ℕ → List ℕ
shown_lines octets = flat_map (λ octet. if octet == 10 then 10 ∷ [] else shown_octet octet) octets

-- a line of mail as a terminal shows it, and its end
abbrev pub shown_line : List ℕ → List ℕ
shown_line line = shown line ++ 10 ∷ []

-- what follows the last CR LF of a text, if anything
abbrev pub shown_last : List ℕ → List ℕ
shown_last [] = []
shown_last (octet ∷ octets) = shown_line (octet ∷ octets)

-- a text of mail as a terminal shows it: line by line, with a line feed for each CR LF
pub record IsShownText (text added : List ℕ) : Type 0 where
  pub lines : List (List ℕ)
  pub rest : List ℕ
  pub text_is : text ≡ lines_text lines ++ rest
  pub are_lines : AreLines lines
  pub rest_is : HasNoCrlf rest
  pub added_is : added ≡ flat_map shown_line lines ++ shown_last rest

-- this many spaces
abbrev pub padding : ℕ → List ℕ
padding zero = []
padding (suc count) = 32 ∷ padding count
