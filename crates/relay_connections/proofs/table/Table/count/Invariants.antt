-- those that were passed over are counted, and the others aren't yet
use Rattle.std.proofs.Common.{◌≡◌, ◌≤◌, ◌+◌, drop}
use Rattle.relay_connections.specs.Table.{count_of}
use Rattle.relay_connections.proofs.table.Table.count.Given as goal

abbrev pub invariant-loop-number : goal.invariant-loop-number
invariant-loop-number g l = (l.count ≤ l.number) × (l.count + count_of (drop l.number l.standing) ≡ count_of l.standing)
