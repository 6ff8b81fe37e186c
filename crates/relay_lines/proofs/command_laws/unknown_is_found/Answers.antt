use Rattle.relay_lines.proofs.CommandFaultLemmas.{unknown_is_found}
use Rattle.relay_lines.proofs.command_laws.unknown_is_found.Goals as goal

pub returns : goal.returns
returns c = unknown_is_found
