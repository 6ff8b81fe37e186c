use Rattle.std.proofs.Common.{◌≡◌, ◌++◌, take}
use Rattle.relay_queue.specs.Screen.{shown_lines}
use Rattle.relay_queue.proofs.screen.Screen.push_lines.Given as goal

abbrev pub invariant-loop-octet : goal.invariant-loop-octet
invariant-loop-octet l = l.self ≡ l.fn.self ++ shown_lines (take l.octet-index l.lines)
