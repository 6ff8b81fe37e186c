-- the lines so far end here
use Rattle.std.proofs.Common.{◌≡◌, ◌≤◌, length}
use Rattle.relay_connections.specs.Share.{lines_length}
use Rattle.relay_connections.proofs.share.lines_length.Given as goal

abbrev pub invariant-loop : goal.invariant-loop
invariant-loop l = (l.end ≡ lines_length l.counter l.octets) × (l.end ≤ length l.octets) × (l.counter ≤ 256)
