use Rattle.relay_world.proofs.UnsoundLemmas.{forgetting_outcome_breaks}
use Rattle.relay_world.proofs.passing.forgetting_outcome_breaks.Goals as goal

pub returns : goal.returns
returns g c = forgetting_outcome_breaks _
