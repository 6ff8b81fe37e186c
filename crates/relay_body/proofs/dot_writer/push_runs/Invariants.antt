use Rattle.std.proofs.Common.{length}
use Rattle.relay_body.specs.DotSteps.{AddsSoFar}
use Rattle.relay_body.proofs.dot_writer.push_runs.Given as goal

abbrev pub invariant-loop-end : goal.invariant-loop-end
invariant-loop-end l = AddsSoFar l.content l.fn.out.items l.out.items l.rest

abbrev pub decreases-loop-end : goal.decreases-loop-end
decreases-loop-end l = length l.rest
