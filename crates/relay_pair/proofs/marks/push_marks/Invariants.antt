use Rattle.std.proofs.Common.{◌≡◌, ◌++◌, map, take}
use Rattle.relay_pair.specs.Marks.{mark_of}
use Rattle.relay_pair.proofs.marks.push_marks.Given as goal

-- the places so far were added
abbrev pub invariant-loop-number : goal.invariant-loop-number
invariant-loop-number l = l.marks.items ≡ l.fn.marks.items ++ map (mark_of l.node) (take l.number-index l.held)
