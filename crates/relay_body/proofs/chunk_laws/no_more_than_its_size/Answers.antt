use Rattle.relay_body.proofs.ChunkLemmas.{no_more_than_its_size}
use Rattle.relay_body.proofs.chunk_laws.no_more_than_its_size.Goals as goal

pub returns : goal.returns
returns c = no_more_than_its_size
