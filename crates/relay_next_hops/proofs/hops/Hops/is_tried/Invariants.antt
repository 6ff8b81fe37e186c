-- none of those that were passed over is for the message
use Rattle.std.proofs.Common.{ℕ, ◌<◌}
use Rattle.relay_next_hops.proofs.TriedLemmas.{IsTriedAt}
use Rattle.relay_next_hops.proofs.hops.Hops.is_tried.Given as goal

abbrev pub invariant-loop-slot : goal.invariant-loop-slot
invariant-loop-slot g l =
    (number : ℕ) → number < l.slot-index → IsTriedAt l.self.hops l.message l.name l.lane number → ⊥
