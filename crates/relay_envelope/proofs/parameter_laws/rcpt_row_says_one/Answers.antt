-- A row of RCPT gives values or has one fault.
use Rattle.relay_envelope.proofs.RowIsOneLemmas.{rcpt_row_says_one as law}
use Rattle.relay_envelope.proofs.parameter_laws.rcpt_row_says_one.Goals as goal

pub returns : goal.returns
returns c = law
