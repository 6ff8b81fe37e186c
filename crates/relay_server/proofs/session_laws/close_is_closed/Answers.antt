use Rattle.relay_server.proofs.SessionLawLemmas.{close_is_closed}
use Rattle.relay_server.proofs.session_laws.close_is_closed.Goals as goal

pub returns : goal.returns
returns c = close_is_closed
