-- the octets so far are encoded
use Rattle.std.proofs.Common.{◌≡◌, take}
use Rattle.relay_envelope.specs.Xtext.{encoded}
use Rattle.relay_envelope.proofs.xtext.Xtext.encode.Given as goal

abbrev pub invariant-loop-octet : goal.invariant-loop-octet
invariant-loop-octet l = l.text.items ≡ encoded (take l.octet-index l.octets)
