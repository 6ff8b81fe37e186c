use Rattle.relay_server.proofs.StoredLemmas.{offers_may_be_stored}
use Rattle.relay_server.proofs.laws.offers_may_be_stored.Goals as goal

pub returns : goal.returns
returns c = offers_may_be_stored
