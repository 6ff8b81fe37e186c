-- those that were saved so far
use Rattle.relay_steering.specs.Withdrawing.{AreSome}
use Rattle.relay_steering.proofs.saving.write_each.Given as goal

abbrev pub invariant-loop-selected : goal.invariant-loop-selected
invariant-loop-selected g l = AreSome l.saved.items l.yielded
