use Rattle.std.proofs.Common.{◌≡◌, ◌++◌}
use Rattle.relay_queue.specs.Screen.{AreSafe, padding}
use Rattle.relay_queue.proofs.screen.Screen.push_spaces.Given as goal

abbrev pub invariant-loop : goal.invariant-loop
invariant-loop l = (l.self-inside.text.items ≡ l.fn.self ++ padding l.counter) × AreSafe l.self-inside.text.items
