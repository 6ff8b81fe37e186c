use Rattle.relay_body.proofs.ChunkLemmas.{whole_is_one_more}
use Rattle.relay_body.proofs.chunk_laws.whole_is_one_more.Goals as goal

pub returns : goal.returns
returns c = whole_is_one_more
