use Rattle.relay_world.proofs.InventedLemmas.{inventing_breaks}
use Rattle.relay_world.proofs.passing.inventing_breaks.Goals as goal

pub returns : goal.returns
returns g c = inventing_breaks g.D.Disk.honest g.D.Disk.words
