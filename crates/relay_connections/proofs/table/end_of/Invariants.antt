-- nothing stands in a slot that was passed over, nor in one after it
use Rattle.std.proofs.Common.{◌≤◌}
use Rattle.relay_connections.specs.Table.{AreFreeFrom}
use Rattle.relay_connections.proofs.table.end_of.Given as goal

abbrev pub invariant-loop-last : goal.invariant-loop-last
invariant-loop-last g l = (l.last ≤ l.end) × AreFreeFrom l.slots l.last

abbrev pub decreases-loop-last : goal.decreases-loop-last
decreases-loop-last g l = l.last
