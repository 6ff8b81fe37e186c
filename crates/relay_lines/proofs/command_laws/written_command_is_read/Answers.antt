use Rattle.relay_lines.proofs.WrittenCommandLemmas.{written_command_is_read}
use Rattle.relay_lines.proofs.command_laws.written_command_is_read.Goals as goal

pub returns : goal.returns
returns c = written_command_is_read
