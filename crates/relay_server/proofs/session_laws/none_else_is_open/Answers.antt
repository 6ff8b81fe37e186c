use Rattle.relay_server.proofs.SessionLawLemmas.{none_else_is_open}
use Rattle.relay_server.proofs.session_laws.none_else_is_open.Goals as goal

pub returns : goal.returns
returns c = none_else_is_open
