use Rattle.relay_server.proofs.SessionLawLemmas.{answered_is_settled}
use Rattle.relay_server.proofs.session_laws.answered_is_settled.Goals as goal

pub returns : goal.returns
returns c = answered_is_settled
