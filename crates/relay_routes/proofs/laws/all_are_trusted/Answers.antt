use Rattle.relay_routes.proofs.AcceptedLemmas.{all_are_trusted}
use Rattle.relay_routes.proofs.laws.all_are_trusted.Goals as goal

pub returns : goal.returns
returns c = all_are_trusted
