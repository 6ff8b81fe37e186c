use Rattle.relay_lines.proofs.ChunkArgumentLemmas.{eleven_digits_are_too_many}
use Rattle.relay_lines.proofs.chunk_argument_laws.eleven_digits_are_too_many.Goals as goal

pub returns : goal.returns
returns c = eleven_digits_are_too_many
