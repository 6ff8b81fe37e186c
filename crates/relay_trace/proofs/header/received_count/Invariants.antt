use Rattle.std.proofs.Common.{length}
use Rattle.relay_trace.proofs.HeaderSteps.{CountsSoFar}
use Rattle.relay_trace.proofs.header.received_count.Given as goal

abbrev pub invariant-loop-place : goal.invariant-loop-place
invariant-loop-place l = CountsSoFar l.text l.rest l.count

abbrev pub decreases-loop-place : goal.decreases-loop-place
decreases-loop-place l = length l.rest
