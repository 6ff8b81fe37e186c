use Rattle.std.proofs.Common.{◌≡◌, ◌++◌, take}
use Rattle.relay_queue.specs.Screen.{shown}
use Rattle.relay_queue.proofs.screen.Screen.push.Given as goal

abbrev pub invariant-loop-octet : goal.invariant-loop-octet
invariant-loop-octet l = l.self ≡ l.fn.self ++ shown (take l.octet-index l.octets)
