use Rattle.relay_lines.proofs.ChunkArgumentLemmas.{bdat_argument_is_of_spelling}
use Rattle.relay_lines.proofs.chunk_argument_laws.bdat_argument_is_of_spelling.Goals as goal

pub returns : goal.returns
returns c = bdat_argument_is_of_spelling
