use Rattle.relay_body.proofs.ChunkLemmas.{chunks_have_memory}
use Rattle.relay_body.proofs.chunk_laws.chunks_have_memory.Goals as goal

pub returns : goal.returns
returns c = chunks_have_memory
