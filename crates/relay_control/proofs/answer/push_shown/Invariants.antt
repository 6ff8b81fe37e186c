use Rattle.std.proofs.Common.{◌≡◌, ◌++◌, map, take}
use Rattle.relay_lines.specs.Word.{shown}
use Rattle.relay_control.proofs.answer.push_shown.Given as goal

abbrev pub invariant-loop-octet : goal.invariant-loop-octet
invariant-loop-octet l = l.answer.items ≡ l.fn.answer.items ++ map shown (take l.octet-index l.octets)
