-- what is read so far is written, and what is left gets shorter
use Rattle.std.proofs.Common.{length}
use Rattle.relay_rows_tests.specs.Steps.{ReadsSoFar}
use Rattle.relay_rows_tests.proofs.reply_play.replies_outcome.Given as goal

abbrev pub invariant-loop-rest : goal.invariant-loop-rest
invariant-loop-rest l = ReadsSoFar l.octets l.rest l.out.items l.reader

abbrev pub decreases-loop-rest : goal.decreases-loop-rest
decreases-loop-rest l = length l.rest
