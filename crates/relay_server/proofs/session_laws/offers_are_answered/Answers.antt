use Rattle.relay_server.proofs.SessionLawLemmas.{offers_are_answered}
use Rattle.relay_server.proofs.session_laws.offers_are_answered.Goals as goal

pub returns : goal.returns
returns c = offers_are_answered
