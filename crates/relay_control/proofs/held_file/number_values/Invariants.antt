-- The values so far are those of the numbers before what is left.
use Rattle.relay_control.proofs.HeldFileLemmas.{HasWritten}
use Rattle.relay_control.proofs.held_file.number_values.Given as goal

abbrev pub invariant-loop-number : goal.invariant-loop-number
invariant-loop-number l = HasWritten l.values.items l.number-iterator l.numbers.keys
