use Rattle.relay_lines.proofs.WrittenCommandLemmas.{command_has_no_crlf}
use Rattle.relay_lines.proofs.command_laws.command_has_no_crlf.Goals as goal

pub returns : goal.returns
returns c = command_has_no_crlf
