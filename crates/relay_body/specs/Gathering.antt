-- A content as it is gathered: kept up to a limit, and dropped past it.
use Rattle.std.specs.Prelude.{◌≡◌, ◌≤◌, ℕ, nat_le, if◌then◌else◌, List, length, Option, Some, None}
use Rattle.relay_body.specs.declared.gathered.Gathered.{Gathered}
use Rattle.relay_body.specs.declared.gathered.Gathered.TheVariants.{Whole, TooLarge}
use Rattle.relay_body.specs.declared.gathered.Gathering.{Gathering}

-- of a content all is kept, or nothing if it passes the limit
abbrev pub kept_of : ℕ → List ℕ → Option (List ℕ)
kept_of limit content = if nat_le (length content) limit then Some content else None

-- a content as it is returned: whole, or too large if it passes the limit
abbrev pub gathered_of : ℕ → List ℕ → Gathered
gathered_of limit content = if nat_le (length content) limit then Whole content else TooLarge

-- the content has come so far, and is kept up to the limit
pub record KeepsContent (gathering : Gathering) (limit : ℕ) (content : List ℕ) : Type 0 where
  pub limit_is : gathering.limit ≡ limit
  pub kept_is : gathering.kept ≡ kept_of limit content

-- a content that is returned whole is within the limit
abbrev pub IsWithin : ℕ → Gathered → Type 0
IsWithin limit (Whole content) = length content ≤ limit
IsWithin limit TooLarge = Unit {0}
