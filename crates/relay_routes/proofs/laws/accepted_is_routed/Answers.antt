use Rattle.relay_routes.proofs.AcceptedLemmas.{accepted_is_routed}
use Rattle.relay_routes.proofs.laws.accepted_is_routed.Goals as goal

pub returns : goal.returns
returns c = accepted_is_routed
