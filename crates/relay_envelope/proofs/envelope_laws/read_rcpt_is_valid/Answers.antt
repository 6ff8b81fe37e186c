use Rattle.relay_envelope.proofs.ValidLemmas.{read_rcpt_is_valid}
use Rattle.relay_envelope.proofs.envelope_laws.read_rcpt_is_valid.Goals as goal

pub returns : goal.returns
returns c = read_rcpt_is_valid
