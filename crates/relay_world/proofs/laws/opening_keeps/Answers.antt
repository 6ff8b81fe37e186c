use Rattle.relay_world.proofs.OpenLemmas.{opening_keeps}
use Rattle.relay_world.proofs.laws.opening_keeps.Goals as goal

pub returns : goal.returns
returns g c = opening_keeps g.D.Disk.honest g.D.Disk.words
