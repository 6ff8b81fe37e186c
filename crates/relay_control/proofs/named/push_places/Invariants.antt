use Rattle.std.proofs.Common.{◌≡◌, ◌++◌, take}
use Rattle.relay_control.specs.Named.{places_text}
use Rattle.relay_control.proofs.named.push_places.Given as goal

abbrev pub invariant-loop-index : goal.invariant-loop-index
invariant-loop-index l = l.text.items ≡ l.fn.text.items ++ places_text (take l.index l.places)
