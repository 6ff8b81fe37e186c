-- the loads of the places so far
use Rattle.std.proofs.Common.{◌≡◌, take}
use Rattle.relay_listing.specs.Load.{loads_at, loads_in}
use Rattle.relay_queue.proofs.summary.loads_of.Given as goal

abbrev pub invariant-loop-mark : goal.invariant-loop-mark
invariant-loop-mark l =
    loads_in l.loads.entries ≡ loads_at l.table l.look.queue (take l.mark-index l.mark-items)
