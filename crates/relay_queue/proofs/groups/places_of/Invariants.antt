-- the places so far
use Rattle.std.proofs.Common.{◌≡◌, map, take}
use Rattle.relay_queue.proofs.groups.places_of.Given as goal

abbrev pub invariant-loop-mark : goal.invariant-loop-mark
invariant-loop-mark l = l.places.items ≡ map (λ mark. mark.1) (take l.mark-index l.marks)
