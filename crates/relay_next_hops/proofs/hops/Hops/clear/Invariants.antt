-- nothing stands before the slot that is looked at next, nor after the last that stood
use Rattle.std.proofs.Common.{◌≡◌, ℕ, ◌<◌, ◌≤◌, None}
use Rattle.relay_slots.specs.Slots.{slot_at}
use Rattle.relay_next_hops.proofs.hops.Hops.clear.Given as goal

abbrev pub invariant-loop-number : goal.invariant-loop-number
invariant-loop-number g l =
    ((number : ℕ) → number < l.number → slot_at l.self.hops number ≡ None)
    × ((number : ℕ) → l.count ≤ number → slot_at l.self.hops number ≡ None)
