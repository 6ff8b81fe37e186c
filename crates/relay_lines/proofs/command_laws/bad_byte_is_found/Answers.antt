use Rattle.relay_lines.proofs.CommandFaultLemmas.{bad_byte_is_found}
use Rattle.relay_lines.proofs.command_laws.bad_byte_is_found.Goals as goal

pub returns : goal.returns
returns c = bad_byte_is_found
