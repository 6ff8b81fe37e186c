-- none so far stands alone
use Rattle.std.proofs.Common.{◌-◌, length}
use Rattle.relay_body.proofs.BareEndLemmas.{SeesNone}
use Rattle.relay_body.proofs.bare_ends.has_bare_end.Given as goal

abbrev pub invariant-loop-place : goal.invariant-loop-place
invariant-loop-place l = SeesNone l.octets l.from

abbrev pub decreases-loop-place : goal.decreases-loop-place
decreases-loop-place l = length l.octets - l.from
