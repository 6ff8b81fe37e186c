use Rattle.relay_world.proofs.ForbiddenLemmas.{forgetting_breaks}
use Rattle.relay_world.proofs.passing.forgetting_breaks.Goals as goal

pub returns : goal.returns
returns g c = forgetting_breaks g.D.Disk.honest g.D.Disk.words
