-- what has come is held, and what is left gets shorter
use Rattle.std.proofs.Common.{length}
use Rattle.relay_rows_tests.specs.Steps.{HoldsSoFar}
use Rattle.relay_rows_tests.proofs.line_play.line_outcome.Given as goal

abbrev pub invariant-loop-rest : goal.invariant-loop-rest
invariant-loop-rest l = HoldsSoFar l.octets l.rest l.come l.buffer

abbrev pub decreases-loop-rest : goal.decreases-loop-rest
decreases-loop-rest l = length l.rest
