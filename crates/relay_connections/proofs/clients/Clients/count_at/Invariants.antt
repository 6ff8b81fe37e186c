-- those that were passed over are counted, and the others aren't yet
use Rattle.std.proofs.Common.{◌≡◌, ◌≤◌, ◌+◌, drop}
use Rattle.relay_connections.specs.Room.{is_at}
use Rattle.relay_connections.specs.Table.{count_of_such}
use Rattle.relay_connections.proofs.clients.Clients.count_at.Given as goal

abbrev pub invariant-loop-number : goal.invariant-loop-number
invariant-loop-number g l = (l.count ≤ l.number)
    × (l.count + count_of_such (is_at l.address) (drop l.number l.standing) ≡ count_of_such (is_at l.address) l.standing)
