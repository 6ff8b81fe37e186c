-- A row of MAIL gives values or has one fault.
use Rattle.relay_envelope.proofs.RowIsOneLemmas.{mail_row_says_one as law}
use Rattle.relay_envelope.proofs.parameter_laws.mail_row_says_one.Goals as goal

pub returns : goal.returns
returns c = law
