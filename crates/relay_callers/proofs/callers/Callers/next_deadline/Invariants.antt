use Rattle.std.proofs.Common.{◌≤◌}
use Rattle.relay_callers.proofs.callers.Callers.next_deadline.Given as goal

abbrev pub invariant-loop-slot : goal.invariant-loop-slot
invariant-loop-slot g l = l.next ≤ l.fn.otherwise
