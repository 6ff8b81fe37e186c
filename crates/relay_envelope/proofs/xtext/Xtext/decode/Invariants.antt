-- the octets so far, before those of the rest, are those of the text
use Rattle.std.proofs.Common.{◌≡◌, length}
use Rattle.relay_envelope.specs.Xtext.{decoded, joined_octets}
use Rattle.relay_envelope.proofs.xtext.Xtext.decode.Given as goal

abbrev pub invariant-loop-octet : goal.invariant-loop-octet
invariant-loop-octet l = joined_octets l.octets.items (decoded l.rest) ≡ decoded l.text

abbrev pub decreases-loop-octet : goal.decreases-loop-octet
decreases-loop-octet l = length l.rest
