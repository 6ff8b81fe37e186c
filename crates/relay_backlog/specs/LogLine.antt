-- A line of the log: an event and its fields, each a key and a value, as text or as JSON (RFC 8259).
use Rattle.std.specs.Prelude.{◌≡◌, ℕ, ◌+◌, ◌/◌, ◌%◌, ◌≤◌, ◌==◌, ◌&&◌, ◌||◌, Bool, not, nat_lt, nat_le, List, [], ◌∷◌}
use Rattle.std.specs.Prelude.{◌++◌}
use Rattle.std.specs.Prelude.{decimal, length, take, if◌then◌else◌}
use Rattle.std.specs.Int.{is_in_range}
use Rattle.std.specs.List.{AllPass, flat_map, list_all}
use Rattle.relay_lines.specs.Word.{is_printable}
use Rattle.relay_backlog.specs.declared.log_line.Form.{Form}
use Rattle.relay_backlog.specs.declared.log_line.Form.TheVariants.{Text, Json}

-- printable octets and an LF, 1,000 octets at most
pub record IsLogLine (octets : List ℕ) : Type 0 where
  pub line : List ℕ
  pub printable : AllPass is_printable line
  pub ended : octets ≡ line ++ 10 ∷ []
  pub short : length octets ≤ 1000

-- the hexadecimal digit of a value below 16
abbrev pub hex_digit : ℕ → ℕ
hex_digit value = if nat_lt value 10 then 48 + value else 87 + value

-- profile: `\xHH` is an octet that isn't printable; in JSON `\u00HH` (RFC 8259, section 7)
abbrev pub hex_mark : Form → List ℕ
hex_mark Text = 92 ∷ 120 ∷ []
hex_mark Json = 92 ∷ 117 ∷ 48 ∷ 48 ∷ []

-- an octet that isn't printable, in quotes
abbrev pub hex_octet : Form → ℕ → List ℕ
hex_octet form octet = hex_mark form ++ hex_digit (octet / 16) ∷ hex_digit (octet % 16) ∷ []

-- `"` and `\`
abbrev pub needs_backslash : ℕ → Bool
needs_backslash octet = octet == 34 || octet == 92

-- a printable octet, in quotes
abbrev pub shown_octet : ℕ → List ℕ
shown_octet octet = if needs_backslash octet then 92 ∷ octet ∷ [] else octet ∷ []

-- an octet, in quotes
abbrev pub quoted_octet : Form → ℕ → List ℕ
quoted_octet form octet = if is_printable octet then shown_octet octet else hex_octet form octet

-- octets in quotes
abbrev pub quoted : Form → List ℕ → List ℕ
quoted form octets = 34 ∷ flat_map (quoted_octet form) octets ++ 34 ∷ []

-- an octet that needs no quotes
abbrev pub is_bare_octet : ℕ → Bool
is_bare_octet octet = is_in_range 33 126 octet && not (needs_backslash octet)

-- each octet needs no quotes
unfoldable pub are_bare : List ℕ → Bool
are_bare octets = list_all is_bare_octet octets

-- octets that need no quotes in text: there are some, and none of them is a space, `"` or `\`
abbrev pub is_bare : List ℕ → Bool
is_bare octets = not (length octets == 0) && are_bare octets

-- octets as a value
abbrev pub value_text : Form → List ℕ → List ℕ
value_text Text octets = if is_bare octets then octets else quoted Text octets
value_text Json octets = quoted Json octets

-- a number as a value, with its unit in text
abbrev pub number_text : Form → ℕ → List ℕ → List ℕ
number_text Text number unit = decimal number ++ unit
number_text Json number unit = decimal number

-- a key, and what stands around it: ` key=`, or `,"key":`
abbrev pub key_text : Form → List ℕ → List ℕ
key_text Text key = 32 ∷ key ++ 61 ∷ []
key_text Json key = 44 ∷ 34 ∷ key ++ 34 ∷ 58 ∷ []

-- profile: of a value the first 320 octets stand in the line
abbrev pub cut : List ℕ → List ℕ
cut octets = take 320 octets

-- profile: a field that makes a line longer than 998 octets is left out, so that `}` and the LF have room
abbrev pub with_field : List ℕ → List ℕ → List ℕ
with_field line field = if nat_le (length line + length field) 998 then line ++ field else line
