use Rattle.relay_body.proofs.ChunkLemmas.{cutting_says_nothing}
use Rattle.relay_body.proofs.chunk_laws.cutting_says_nothing.Goals as goal

pub returns : goal.returns
returns c = cutting_says_nothing
