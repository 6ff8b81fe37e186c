use Rattle.std.proofs.Common.{◌≡◌, ◌++◌, take}
use Rattle.relay_control.specs.Named.{names_text}
use Rattle.relay_control.proofs.named.push_names.Given as goal

abbrev pub invariant-loop-index : goal.invariant-loop-index
invariant-loop-index l = l.text.items ≡ l.fn.text.items ++ names_text (take l.index l.names)
