use Rattle.std.proofs.Common.{◌≤◌}
use Rattle.relay_connections.proofs.refusals.Refusals.next_deadline.Given as goal

abbrev pub invariant-loop-slot : goal.invariant-loop-slot
invariant-loop-slot l = l.next ≤ l.otherwise
