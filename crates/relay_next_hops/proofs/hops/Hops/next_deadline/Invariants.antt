-- so far it is not after the given tick, nor after that of a connection that was passed over
use Rattle.std.proofs.Common.{◌≡◌, ◌≤◌, ◌<◌, ℕ, Some}
use Rattle.std.specs.Prelude.{min}
use Rattle.relay_slots.specs.Slots.{slot_at}
use Rattle.relay_next_hops.specs.declared.hop.Hop.{Hop}
use Rattle.relay_next_hops.proofs.hops.Hops.next_deadline.Given as goal

abbrev pub invariant-loop-slot : goal.invariant-loop-slot
invariant-loop-slot g l = (l.next ≤ l.otherwise)
    × ((number : ℕ) → number < l.slot-index → (hop : Hop _) → slot_at l.self.hops number ≡ Some hop
    → l.next ≤ min hop.idle_deadline hop.answer_deadline)
