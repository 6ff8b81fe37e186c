use Rattle.relay_world.proofs.LoseLemmas.{dropping_keeps}
use Rattle.relay_world.proofs.laws.dropping_keeps.Goals as goal

pub returns : goal.returns
returns g c = dropping_keeps g.D.Disk.honest g.D.Disk.words
