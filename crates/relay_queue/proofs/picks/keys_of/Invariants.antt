use Rattle.std.proofs.Common.{◌≡◌, take}
use Rattle.std.specs.List.{flat_map}
use Rattle.relay_queue.specs.Picks.{keys_at}
use Rattle.relay_queue.proofs.picks.keys_of.Given as goal

abbrev pub invariant-loop-mark : goal.invariant-loop-mark
invariant-loop-mark l =
    l.keys.items ≡ flat_map (keys_at l.filter l.now l.table l.look.queue) (take l.mark-index l.mark-items)
