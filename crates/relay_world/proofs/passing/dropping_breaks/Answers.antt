use Rattle.relay_world.proofs.ForbiddenLemmas.{dropping_breaks}
use Rattle.relay_world.proofs.passing.dropping_breaks.Goals as goal

pub returns : goal.returns
returns g c = dropping_breaks g.D.Disk.honest g.D.Disk.words
