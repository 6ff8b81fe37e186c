use Rattle.relay_envelope.proofs.CommandLineLemmas.{rcpt_is_command_line}
use Rattle.relay_envelope.proofs.envelope_laws.rcpt_is_command_line.Goals as goal

pub returns : goal.returns
returns c = rcpt_is_command_line
