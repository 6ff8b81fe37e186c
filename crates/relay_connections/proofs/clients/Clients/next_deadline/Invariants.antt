-- so far it is the earliest of the given tick and of those at which those that were passed over are cut off
use Rattle.relay_connections.specs.Readiness.{clients_of}
use Rattle.relay_connections.specs.Sessions.{cut_tick}
use Rattle.relay_connections.proofs.DeadlineLemmas.{IsSoFar}
use Rattle.relay_connections.proofs.clients.Clients.next_deadline.Given as goal

abbrev pub invariant-loop-slot : goal.invariant-loop-slot
invariant-loop-slot g l = IsSoFar (cut_tick l.self) l.otherwise (clients_of l.self) l.slot-index l.next
