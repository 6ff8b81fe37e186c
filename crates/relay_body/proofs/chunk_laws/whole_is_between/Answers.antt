use Rattle.relay_body.proofs.ChunkLemmas.{whole_is_between}
use Rattle.relay_body.proofs.chunk_laws.whole_is_between.Goals as goal

pub returns : goal.returns
returns c = whole_is_between
