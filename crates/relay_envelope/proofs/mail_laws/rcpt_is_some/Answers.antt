use Rattle.relay_envelope.proofs.MailLemmas.{rcpt_is_some}
use Rattle.relay_envelope.proofs.mail_laws.rcpt_is_some.Goals as goal

pub returns : goal.returns
returns c = rcpt_is_some
