use Rattle.std.proofs.Common.{◌≡◌, ◌+◌, drop}
use Rattle.relay_hosts.specs.Room.{lines_left}
use Rattle.relay_hosts.proofs.lines.lines_left.Given as goal

-- the lines of the nodes so far, and those of the others
abbrev pub invariant-loop-node : goal.invariant-loop-node
invariant-loop-node g l = l.lines + lines_left l.node (drop l.node l.hosts) ≡ lines_left 0 l.hosts
