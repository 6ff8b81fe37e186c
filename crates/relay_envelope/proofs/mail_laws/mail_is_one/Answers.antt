use Rattle.relay_envelope.proofs.MailLemmas.{mail_is_one}
use Rattle.relay_envelope.proofs.mail_laws.mail_is_one.Goals as goal

pub returns : goal.returns
returns c = mail_is_one
