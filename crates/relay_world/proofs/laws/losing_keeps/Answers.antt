use Rattle.relay_world.proofs.LoseLemmas.{losing_keeps}
use Rattle.relay_world.proofs.laws.losing_keeps.Goals as goal

pub returns : goal.returns
returns g c = losing_keeps g.D.Disk.honest g.D.Disk.words
