-- the columns are as wide as the recipients so far ask for
use Rattle.std.proofs.Common.{◌≡◌, take}
use Rattle.relay_queue.specs.Table.{queued_of, widths_for}
use Rattle.relay_queue.proofs.table.widths_of.Given as goal

abbrev pub invariant-loop-key : goal.invariant-loop-key
invariant-loop-key l = l.widths ≡ widths_for (queued_of l.table l.look.queue (take l.key-index l.keys))
