use Rattle.relay_lines.proofs.ChunkArgumentLemmas.{bdat_beginning_is_tested}
use Rattle.relay_lines.proofs.chunk_argument_laws.bdat_beginning_is_tested.Goals as goal

pub returns : goal.returns
returns c = bdat_beginning_is_tested
