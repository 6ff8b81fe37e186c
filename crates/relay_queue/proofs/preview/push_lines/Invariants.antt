-- the lines so far
use Rattle.std.proofs.Common.{◌≡◌, ◌++◌, take}
use Rattle.std.specs.List.{flat_map}
use Rattle.relay_queue.specs.Selection.{line_of_mark}
use Rattle.relay_queue.proofs.preview.push_lines.Given as goal

abbrev pub invariant-loop-mark : goal.invariant-loop-mark
invariant-loop-mark l =
    l.screen ≡ l.fn.screen ++ flat_map (line_of_mark l.table l.look.queue) (take l.mark-index l.marks)
