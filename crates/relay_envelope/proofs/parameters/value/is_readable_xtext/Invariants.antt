-- the octets so far are printable, so the rest decides
use Rattle.std.proofs.Common.{◌≡◌, length}
use Rattle.relay_envelope.specs.Xtext.{decoded}
use Rattle.relay_envelope.specs.Parameters.{are_readable}
use Rattle.relay_envelope.proofs.parameters.value.is_readable_xtext.Given as goal

abbrev pub invariant-loop-octet : goal.invariant-loop-octet
invariant-loop-octet l = are_readable (decoded l.rest) ≡ are_readable (decoded l.text)

abbrev pub decreases-loop-octet : goal.decreases-loop-octet
decreases-loop-octet l = length l.rest
