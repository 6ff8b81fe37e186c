use Rattle.relay_routes.proofs.AcceptedLemmas.{nobody_is_listed}
use Rattle.relay_routes.proofs.laws.nobody_is_listed.Goals as goal

pub returns : goal.returns
returns c = nobody_is_listed
