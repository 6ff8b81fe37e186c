-- no number so far is free
use Rattle.std.proofs.Common.{◌≢◌, ◌<◌, ◌≤◌, ◌-◌, ℕ, length, None}
use Rattle.relay_slots.specs.Slots.{slot_at}
use Rattle.relay_slots.proofs.slots.Slots.free.Given as goal

abbrev pub invariant-loop-number : goal.invariant-loop-number
invariant-loop-number g l = (l.number ≤ length l.self) × ((lower : ℕ) → lower < l.number → slot_at l.self lower ≢ None)

abbrev pub decreases-loop-number : goal.decreases-loop-number
decreases-loop-number g l = length l.self - l.number
