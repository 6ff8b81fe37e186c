-- Short of room: a relay whose ballast isn't there. It begins an attempt only if a test has found the room for its
-- outcome, and bounds its spool by what the disk holds.
use Rattle.std.specs.Prelude.{ℕ, ◌+◌, ◌-◌, ◌*◌, ◌/◌, ◌^◌, ◌≤◌, nat_lt, max, min, if◌then◌else◌}
use Rattle.relay_room.specs.declared.standing.Standing.{Standing}
use Rattle.relay_room.specs.declared.standing.Standing.TheVariants.{Roomy, Short}

-- The state begins with a failure of the device, after which nothing is known of the room. profile: an attempt needs
-- 64 KiB then, and after a second failure as much as the ballast has.
abbrev pub standing_at_failure : Standing → ℕ → Standing
standing_at_failure Roomy size = Short 0 (2 ^ 16)
standing_at_failure (Short room need) size = Short 0 (max size (2 ^ 16))

-- It ends where a test finds room for the ballast and for as much again.
abbrev pub standing_at_test : Standing → ℕ → ℕ → Standing
standing_at_test Roomy room size = Roomy
standing_at_test (Short last need) room size = if nat_lt room (size * 2) then Short room need else Roomy

-- An attempt may begin, where the spool has grown by this many octets since the test: what is left holds its outcome.
abbrev pub MayBegin : Standing → ℕ → Type 0
MayBegin Roomy grown = Unit {0}
MayBegin (Short room need) grown = need ≤ room - grown

-- Three eighths of what the files of the spool and the room beside them hold, where that is less than what is
-- configured: an old file of that size and a new one leave a quarter of it to outcomes.
abbrev pub bounded_limit : Standing → ℕ → ℕ → ℕ
bounded_limit Roomy configured files = configured
bounded_limit (Short room need) configured files = min configured (max (min (files + room) (2 ^ 64 - 1) / 8 * 3) 1)
