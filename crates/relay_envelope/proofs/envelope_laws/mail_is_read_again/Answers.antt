use Rattle.relay_envelope.proofs.WrittenLemmas.{mail_is_read_again}
use Rattle.relay_envelope.proofs.envelope_laws.mail_is_read_again.Goals as goal

pub returns : goal.returns
returns c = mail_is_read_again
