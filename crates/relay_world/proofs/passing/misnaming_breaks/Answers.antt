use Rattle.relay_world.proofs.UnsoundLemmas.{misnaming_breaks}
use Rattle.relay_world.proofs.passing.misnaming_breaks.Goals as goal

pub returns : goal.returns
returns g c = misnaming_breaks _
