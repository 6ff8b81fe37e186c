-- The values so far are those of the names so far.
use Rattle.std.proofs.Common.{take}
use Rattle.toml.specs.View.{items_view}
use Rattle.relay_control.specs.HeldFile.{AreNames}
use Rattle.relay_control.proofs.held_file.name_values.Given as goal

abbrev pub invariant-loop-name : goal.invariant-loop-name
invariant-loop-name l = AreNames (items_view l.values.items) (take l.name-index l.names)
