use Rattle.relay_world.proofs.UnsoundLemmas.{healing_breaks}
use Rattle.relay_world.proofs.passing.healing_breaks.Goals as goal

pub returns : goal.returns
returns g c = healing_breaks _
