-- so far it is the earliest of the given tick and of those at which those that were passed over are closed
use Rattle.relay_connections.specs.Leaving.{closes_at, leavers_of}
use Rattle.relay_connections.proofs.DeadlineLemmas.{IsSoFar}
use Rattle.relay_connections.proofs.leaving.Leaving.next_deadline.Given as goal

abbrev pub invariant-loop-slot : goal.invariant-loop-slot
invariant-loop-slot g l = IsSoFar closes_at l.otherwise (leavers_of l.self) l.slot-index l.next
