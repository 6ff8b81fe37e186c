-- The octets so far, and those of what is left.
use Rattle.std.proofs.Common.{◌≡◌, ◌++◌, length}
use Rattle.relay_rows_tests.specs.Row.{octets_of}
use Rattle.relay_rows_tests.proofs.escape.unescaped.Given as goal

abbrev pub invariant-loop-octet : goal.invariant-loop-octet
invariant-loop-octet l = l.octets.items ++ octets_of l.rest ≡ octets_of l.text

abbrev pub decreases-loop-octet : goal.decreases-loop-octet
decreases-loop-octet l = length l.rest
