use Rattle.relay_body.proofs.ChunkLemmas.{sizes_cut_once}
use Rattle.relay_body.proofs.chunk_laws.sizes_cut_once.Goals as goal

pub returns : goal.returns
returns c = sizes_cut_once
