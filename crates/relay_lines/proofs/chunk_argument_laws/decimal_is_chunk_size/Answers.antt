use Rattle.relay_lines.proofs.ChunkArgumentLemmas.{decimal_is_chunk_size}
use Rattle.relay_lines.proofs.chunk_argument_laws.decimal_is_chunk_size.Goals as goal

pub returns : goal.returns
returns c = decimal_is_chunk_size
