use Rattle.relay_envelope.proofs.CommandLineLemmas.{mail_is_command_line}
use Rattle.relay_envelope.proofs.envelope_laws.mail_is_command_line.Goals as goal

pub returns : goal.returns
returns c = mail_is_command_line
