use Rattle.relay_server.proofs.SessionLawLemmas.{content_is_within}
use Rattle.relay_server.proofs.session_laws.content_is_within.Goals as goal

pub returns : goal.returns
returns c = content_is_within
