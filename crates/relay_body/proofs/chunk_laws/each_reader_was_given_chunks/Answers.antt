use Rattle.relay_body.proofs.ChunkLemmas.{each_reader_was_given_chunks}
use Rattle.relay_body.proofs.chunk_laws.each_reader_was_given_chunks.Goals as goal

pub returns : goal.returns
returns c = each_reader_was_given_chunks
