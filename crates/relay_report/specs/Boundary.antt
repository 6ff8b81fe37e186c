-- Boundaries (RFC 2046, section 5.1.1): a delimiter line must not stand in any of the parts.
use Rattle.std.specs.Prelude.{◌≡◌, ◌≢◌, ◌⊎◌, ℕ, ◌+◌, ◌*◌, ◌<◌, ◌≤◌, ◌^◌, List, ◌++◌, codes, decimal, length}

-- the word stands somewhere in the text
pub record StandsIn (word text : List ℕ) : Type 0 where
  pub before : List ℕ
  pub after : List ℕ
  pub text_is : text ≡ before ++ (word ++ after)

-- the word stands nowhere in the text
pub record StandsNowhere (word text : List ℕ) : Type 0 where
  pub nowhere : (before after : List ℕ) → text ≢ before ++ (word ++ after)

-- the stem, and the number after it
abbrev pub numbered : List ℕ → ℕ → List ℕ
numbered stem number = stem ++ decimal number

-- the numbered stem is in one of three parts
abbrev pub IsTaken : List ℕ → List ℕ → List ℕ → List ℕ → ℕ → Type 0
IsTaken stem one two three number =
    StandsIn (numbered stem number) one ⊎ (StandsIn (numbered stem number) two ⊎ StandsIn (numbered stem number) three)

-- the least number whose numbered stem is in none of the three parts
pub record IsLeastFree (stem one two three : List ℕ) (number : ℕ) : Type 0 where
  pub fits : number < 2 ^ 64
  pub free : IsTaken stem one two three number → ⊥
  pub least : (lower : ℕ) → lower < number → IsTaken stem one two three lower

-- what a boundary begins with, after its two dashes: the number of the report is in it
abbrev pub stem_of : ℕ → List ℕ
stem_of number = codes "--=_relay_" ++ decimal number ++ codes "_"

-- the boundary of a report with its own number after it
abbrev pub boundary_text : ℕ → ℕ → List ℕ
boundary_text number least = codes "=_relay_" ++ decimal number ++ codes "_" ++ decimal least

-- The boundary of a report with these parts: of those that stand in none of them after two dashes, the one with
-- the least number.
pub record IsBoundary (number : ℕ) (one two three boundary : List ℕ) : Type 0 where
  pub least : ℕ
  pub is_least : IsLeastFree (stem_of number) one two three least
  pub boundary_is : boundary ≡ boundary_text number least

-- Three parts have a boundary: its number is at most 20 for each of their octets, since no number of 64 bits has more
-- digits, and each octet begins one run of digits at most.
abbrev pub BoundaryIsThere : Type 0
BoundaryIsThere =
    (number : ℕ) (one two three : List ℕ) → 20 * (length one + length two + length three) < 2 ^ 64
    → (boundary : List ℕ) × (is : IsBoundary number one two three boundary)
    × (is.least ≤ 20 * (length one + length two + length three))

-- and only one
abbrev pub BoundaryIsOne : Type 0
BoundaryIsOne =
    (number : ℕ) (one two three boundary other : List ℕ) → IsBoundary number one two three boundary
    → IsBoundary number one two three other → boundary ≡ other
