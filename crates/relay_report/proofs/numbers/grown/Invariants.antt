-- the number so far, and the octets to come
use Rattle.std.proofs.Common.{◌≡◌, drop}
use Rattle.relay_report.specs.Numbers.{grown}
use Rattle.relay_report.proofs.numbers.grown.Given as goal

abbrev pub invariant-loop-octet : goal.invariant-loop-octet
invariant-loop-octet l = grown l.value (drop l.octet-index l.text) ≡ grown l.initial.first l.text
