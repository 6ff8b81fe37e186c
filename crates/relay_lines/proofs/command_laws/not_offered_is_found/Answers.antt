use Rattle.relay_lines.proofs.CommandFaultLemmas.{not_offered_is_found}
use Rattle.relay_lines.proofs.command_laws.not_offered_is_found.Goals as goal

pub returns : goal.returns
returns c = not_offered_is_found
