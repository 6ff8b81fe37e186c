use Rattle.relay_lines.proofs.CommandFaultLemmas.{bad_chunk_size_is_found}
use Rattle.relay_lines.proofs.command_laws.bad_chunk_size_is_found.Goals as goal

pub returns : goal.returns
returns c = bad_chunk_size_is_found
