use Rattle.relay_world.proofs.ForbiddenLemmas.{leading_elsewhere_breaks}
use Rattle.relay_world.proofs.passing.leading_elsewhere_breaks.Goals as goal

pub returns : goal.returns
returns g c = leading_elsewhere_breaks _
