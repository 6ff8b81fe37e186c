-- the selected places among the held places so far
use Rattle.std.proofs.Common.{◌≡◌, take}
use Rattle.std.specs.List.{flat_map}
use Rattle.relay_queue.specs.Selection.{is_selected, mark_if}
use Rattle.relay_queue.proofs.groups.selected_marks.Given as goal

abbrev pub invariant-loop-mark : goal.invariant-loop-mark
invariant-loop-mark l =
    l.marks.items
    ≡ flat_map (mark_if (is_selected l.selection l.now l.table l.look.queue)) (take l.mark-index l.mark-items)
