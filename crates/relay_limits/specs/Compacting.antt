-- When a spool is compacted without being asked to: rewritten, as small as what it holds.
use Rattle.std.specs.Prelude.{◌≡◌, ◌⊎◌, ℕ, ◌+◌, ◌*◌, ◌/◌, ◌^◌, ◌<◌, ◌≤◌, min, Bool, true}

-- A spool of this size, which would take this many octets if it were rewritten, passes the lesser of 16 MiB and half of
-- its limit, and is more than twice as large.
abbrev pub HasHalved : ℕ → ℕ → ℕ → Type 0
HasHalved size compacted limit = (min (2 ^ 24) (limit / 2) < size) × (2 * compacted < size)

-- So it is; or mail was refused because it was full, and a sixteenth of it would go.
abbrev pub IsWorthIt : ℕ → ℕ → ℕ → Bool → Type 0
IsWorthIt size compacted limit was_full =
    HasHalved size compacted limit ⊎ ((was_full ≡ true) × (compacted + size / 16 ≤ size))
