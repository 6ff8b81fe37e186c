-- What stands after a path of RCPT is read as its row says.
use Rattle.relay_envelope.proofs.RowIsReadLemmas.{rcpt_row_is_read as law}
use Rattle.relay_envelope.proofs.parameter_laws.rcpt_row_is_read.Goals as goal

pub returns : goal.returns
returns c = law
