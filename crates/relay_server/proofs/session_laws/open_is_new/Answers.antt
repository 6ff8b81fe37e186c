use Rattle.relay_server.proofs.SessionLawLemmas.{open_is_new}
use Rattle.relay_server.proofs.session_laws.open_is_new.Goals as goal

pub returns : goal.returns
returns c = open_is_new
