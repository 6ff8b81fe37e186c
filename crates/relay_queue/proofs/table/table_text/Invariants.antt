-- the lines of the keys so far, after what stood before them
use Rattle.std.proofs.Common.{take}
use Rattle.relay_queue.specs.Table.{row_line}
use Rattle.relay_queue.proofs.RowLemmas.{AreRows}
use Rattle.relay_queue.proofs.table.table_text.Given as goal

abbrev pub invariant-loop-key : goal.invariant-loop-key
invariant-loop-key l =
    AreRows (row_line l.widths l.now l.table l.look.queue) (take l.key-index l.keys) l.initial.screen l.screen
