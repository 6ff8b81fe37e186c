use Rattle.relay_server.proofs.SessionLawLemmas.{offer_is_within}
use Rattle.relay_server.proofs.session_laws.offer_is_within.Goals as goal

pub returns : goal.returns
returns c = offer_is_within
