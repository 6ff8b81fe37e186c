use Rattle.std.proofs.Common.{◌≡◌, ◌++◌, drop}
use Rattle.relay_pair.specs.Marks.{marks_from}
use Rattle.relay_pair.proofs.marks.held_marks.Given as goal

-- the places so far, and those of the nodes that are left, are all
abbrev pub invariant-loop-node : goal.invariant-loop-node
invariant-loop-node g l = l.marks.items ++ marks_from l.node (drop l.node l.relays.hosts.items) ≡ marks_from 0 l.relays.hosts.items
