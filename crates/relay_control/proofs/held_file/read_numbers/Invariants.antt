-- The set holds the numbers of the values so far.
use Rattle.std.proofs.Common.{take}
use Rattle.toml.specs.View.{items_view}
use Rattle.relay_control.specs.HeldFile.{HoldsNumbers}
use Rattle.relay_control.proofs.held_file.read_numbers.Given as goal

abbrev pub invariant-loop-value : goal.invariant-loop-value
invariant-loop-value l = HoldsNumbers (items_view (take l.value-index l.values)) l.messages
