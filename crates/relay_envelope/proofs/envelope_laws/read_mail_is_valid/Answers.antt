use Rattle.relay_envelope.proofs.ValidLemmas.{read_mail_is_valid}
use Rattle.relay_envelope.proofs.envelope_laws.read_mail_is_valid.Goals as goal

pub returns : goal.returns
returns c = read_mail_is_valid
