use Rattle.relay_server.proofs.SessionLawLemmas.{open_may_be_stored}
use Rattle.relay_server.proofs.session_laws.open_may_be_stored.Goals as goal

pub returns : goal.returns
returns c = open_may_be_stored
