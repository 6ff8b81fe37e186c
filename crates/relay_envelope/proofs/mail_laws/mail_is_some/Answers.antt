use Rattle.relay_envelope.proofs.MailLemmas.{mail_is_some}
use Rattle.relay_envelope.proofs.mail_laws.mail_is_some.Goals as goal

pub returns : goal.returns
returns c = mail_is_some
