use Rattle.relay_envelope.proofs.WrittenLemmas.{rcpt_is_read_again}
use Rattle.relay_envelope.proofs.envelope_laws.rcpt_is_read_again.Goals as goal

pub returns : goal.returns
returns c = rcpt_is_read_again
