-- The text that spells octets in a line of a script: each row of octets has one.
use Rattle.std.specs.Prelude.{◌≡◌, ℕ, ◌+◌, ◌/◌, ◌%◌, ◌^◌, ◌<◌, ◌==◌, nat_lt, Bool, not, ◌&&◌, List, [], ◌∷◌}
use Rattle.std.specs.Prelude.{if◌then◌else◌}
use Rattle.std.specs.List.{flat_map, All}
use Rattle.std.specs.Int.{is_in_range}

-- an octet that stands as it is: from the space to `~`, but for `\`
abbrev pub is_plain : ℕ → Bool
is_plain octet = is_in_range 32 126 octet && not (octet == 92)

-- the hexadecimal digit of a value, in upper case
abbrev pub digit_of : ℕ → ℕ
digit_of value = if nat_lt value 10 then 48 + value else 55 + value

-- an octet as itself; CR as `\r`; LF as `\n`; any other as `\x` and its two digits
abbrev pub spelled_octet : ℕ → List ℕ
spelled_octet octet =
    if is_plain octet then octet ∷ []
    else if octet == 13 then 92 ∷ 114 ∷ []
    else if octet == 10 then 92 ∷ 110 ∷ []
    else 92 ∷ 120 ∷ digit_of (octet / 16) ∷ digit_of (octet % 16) ∷ []

-- the text of octets
abbrev pub spelled : List ℕ → List ℕ
spelled octets = flat_map spelled_octet octets

-- the text spells these octets
pub record SpellsOctets (text octets : List ℕ) : Type 0 where
  pub are_octets : All (λ octet. octet < 2 ^ 8) octets
  pub text_is : text ≡ spelled octets

-- A text spells one row of octets at most.
abbrev pub TextTellsOctets : Type 0
TextTellsOctets =
    (text octets others : List ℕ) → SpellsOctets text octets → SpellsOctets text others → octets ≡ others
