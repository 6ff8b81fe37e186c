use Rattle.relay_lines.proofs.ChunkArgumentLemmas.{one_bdat_argument}
use Rattle.relay_lines.proofs.chunk_argument_laws.one_bdat_argument.Goals as goal

pub returns : goal.returns
returns c = one_bdat_argument
