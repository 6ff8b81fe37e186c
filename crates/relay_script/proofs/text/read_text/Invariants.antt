-- The octets so far are spelled before what is left.
use Rattle.std.proofs.Common.{length}
use Rattle.relay_script.proofs.TextLemmas.{IsReadTo}
use Rattle.relay_script.proofs.text.read_text.Given as goal

abbrev pub invariant-loop-octet : goal.invariant-loop-octet
invariant-loop-octet l = IsReadTo l.text l.octets.items l.rest

abbrev pub decreases-loop-octet : goal.decreases-loop-octet
decreases-loop-octet l = length l.rest
