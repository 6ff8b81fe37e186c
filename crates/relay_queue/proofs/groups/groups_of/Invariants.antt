-- the groups so far, and those of what is left
use Rattle.std.proofs.Common.{◌≡◌, ◌++◌, length, map}
use Rattle.relay_queue.specs.Selection.{group_of, groups_of}
use Rattle.relay_queue.proofs.groups.groups_of.Given as goal

abbrev pub invariant-loop-first : goal.invariant-loop-first
invariant-loop-first l = map group_of l.all.items ++ groups_of l.rest ≡ groups_of l.marks

abbrev pub decreases-loop-first : goal.decreases-loop-first
decreases-loop-first l = length l.rest
