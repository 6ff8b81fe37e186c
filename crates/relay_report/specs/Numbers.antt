-- The numbers that stand after a stem.
use Rattle.std.specs.Prelude.{◌⊎◌, ℕ, zero, suc, ◌+◌, ◌*◌, ◌-◌, ◌/◌, ◌<◌, ◌^◌, nat_le, nat_lt, ◌&&◌, Bool, ◌==◌, List}
use Rattle.std.specs.Prelude.{[], ◌∷◌, Option, None, Some, Contains, length, ◌≤◌, if◌then◌else◌}
use Rattle.std.specs.List.{flat_map}
use Rattle.memchr.specs.Find.{OccursAt}
use Rattle.relay_report.specs.Boundary.{StandsIn, numbered}

-- the number with one digit more
abbrev pub one_more : ℕ → ℕ → ℕ
one_more value octet = value * 10 + (octet - 48)

-- the octet is a digit, and the number with it has 64 bits
abbrev pub may_grow : ℕ → ℕ → Bool
may_grow value octet = (nat_le 48 octet && nat_le octet 57) && nat_le (one_more value octet + 1) (2 ^ 64)

-- that number, if it may be
abbrev pub longer : ℕ → ℕ → Option ℕ
longer value octet = if may_grow value octet then Some (one_more value octet) else None

-- the number, with the digits at the beginning of the octets after it, as far as it has 64 bits
abbrev pub grown : ℕ → List ℕ → ℕ
grown value [] = value
grown value (octet ∷ octets) = if may_grow value octet then grown (one_more value octet) octets else value

-- the longest number whose text begins the octets
abbrev pub leading : List ℕ → Option ℕ
leading [] = None
leading (octet ∷ octets) =
    if octet == 48 then Some 0 else (if may_grow 0 octet then Some (grown (one_more 0 octet) octets) else None)

-- a number, and those that its digits begin with, this many at most
unfoldable pub beginnings : ℕ → ℕ → List ℕ
beginnings zero value = []
beginnings (suc digits) value = value ∷ (if nat_lt value 10 then [] else beginnings digits (value / 10))

-- these numbers of 64 bits, and those that their digits begin with
abbrev pub all_begun : List ℕ → List ℕ
all_begun values = flat_map (beginnings 20) values

-- what a pass over the text adds
pub record Collects (stem text old new : List ℕ) : Type 0 where
  pub keeps : (number : ℕ) → Contains old number → Contains new number
  pub finds : (number : ℕ) → number < 2 ^ 64 → StandsIn (numbered stem number) text → Contains new number
  pub only : (number : ℕ) → Contains new number → Contains old number ⊎ StandsIn (numbered stem number) text

-- the least number that is not in a list
pub record IsLeastOutside (numbers : List ℕ) (least : ℕ) : Type 0 where
  pub fits : least < 2 ^ 64
  pub outside : Contains numbers least → ⊥
  pub below : (lower : ℕ) → lower < least → Contains numbers lower

-- what a pass has added before it comes to the rest
pub record Collecting (stem text rest old new : List ℕ) : Type 0 where
  pub keeps : (number : ℕ) → Contains old number → Contains new number
  pub finds : (number : ℕ) → number < 2 ^ 64 → StandsIn (numbered stem number) text
      → Contains new number ⊎ StandsIn (numbered stem number) rest
  pub only : (number : ℕ) → Contains new number → Contains old number ⊎ StandsIn (numbered stem number) text
  pub part : (number : ℕ) → StandsIn (numbered stem number) rest → StandsIn (numbered stem number) text
  pub shorter : length rest ≤ length text

-- after a place of the word its next one is at least so far
abbrev pub NextIsAfter : List ℕ → ℕ → Type 0
NextIsAfter word step =
    (text : List ℕ) (place far : ℕ) → OccursAt text word place → 0 < far → far < step → OccursAt text word (place + far)
    → ⊥
