-- so many slots are free
use Rattle.std.proofs.Common.{◌≤◌, ◌-◌, length}
use Rattle.relay_slots.specs.Slots.{AreFree}
use Rattle.relay_slots.proofs.slots.Slots.new.Given as goal

abbrev pub invariant-loop-slots : goal.invariant-loop-slots
invariant-loop-slots g l = AreFree l.slots.items × (length l.slots.items ≤ 64)

abbrev pub decreases-loop-slots : goal.decreases-loop-slots
decreases-loop-slots g l = 64 - length l.slots.items
