-- those that were passed over are counted, and the others aren't yet
use Rattle.std.proofs.Common.{◌≡◌, ◌≤◌, ◌+◌, drop}
use Rattle.relay_connections.specs.Table.{count_of_such}
use Rattle.relay_next_hops.specs.Counts.{is_unanswered}
use Rattle.relay_next_hops.proofs.hops.Hops.count_unanswered.Given as goal

abbrev pub invariant-loop-number : goal.invariant-loop-number
invariant-loop-number g l = (l.count ≤ l.number)
    × (l.count + count_of_such (is_unanswered l.lanes.paces) (drop l.number l.standing) ≡ count_of_such (is_unanswered l.lanes.paces) l.standing)
