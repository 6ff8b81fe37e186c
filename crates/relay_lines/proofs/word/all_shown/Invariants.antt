-- the octets so far
use Rattle.std.proofs.Common.{◌≡◌, map, take}
use Rattle.relay_lines.specs.Word.{shown}
use Rattle.relay_lines.proofs.word.all_shown.Given as goal

abbrev pub invariant-loop-octet : goal.invariant-loop-octet
invariant-loop-octet l = l.all.items ≡ map shown (take l.octet-index l.text)
