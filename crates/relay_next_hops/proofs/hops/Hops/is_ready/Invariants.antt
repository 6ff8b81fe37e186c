-- none of those that were passed over was left in mid-read
use Rattle.std.proofs.Common.{ℕ, ◌<◌}
use Rattle.relay_next_hops.specs.Readiness.{IsLeftHop}
use Rattle.relay_next_hops.proofs.hops.Hops.is_ready.Given as goal

abbrev pub invariant-loop-slot : goal.invariant-loop-slot
invariant-loop-slot g l = (number : ℕ) → number < l.slot-index → IsLeftHop l.self.hops l.relay number → ⊥
