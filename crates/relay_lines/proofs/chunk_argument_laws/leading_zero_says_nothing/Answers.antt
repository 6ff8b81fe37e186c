use Rattle.relay_lines.proofs.ChunkArgumentLemmas.{leading_zero_says_nothing}
use Rattle.relay_lines.proofs.chunk_argument_laws.leading_zero_says_nothing.Goals as goal

pub returns : goal.returns
returns c = leading_zero_says_nothing
