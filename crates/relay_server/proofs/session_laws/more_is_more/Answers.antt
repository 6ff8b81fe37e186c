use Rattle.relay_server.proofs.SessionLawLemmas.{more_is_more}
use Rattle.relay_server.proofs.session_laws.more_is_more.Goals as goal

pub returns : goal.returns
returns c = more_is_more
