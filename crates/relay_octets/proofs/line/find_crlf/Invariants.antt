use Rattle.std.proofs.Common.{◌-◌, length}
use Rattle.relay_octets.proofs.SearchLemmas.{EndsNoneBefore}
use Rattle.relay_octets.proofs.line.find_crlf.Given as goal

abbrev pub invariant-loop-place : goal.invariant-loop-place
invariant-loop-place l = EndsNoneBefore l.octets l.from

abbrev pub decreases-loop-place : goal.decreases-loop-place
decreases-loop-place l = length l.octets - l.from
