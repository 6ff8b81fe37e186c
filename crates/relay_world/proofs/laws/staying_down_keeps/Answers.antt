use Rattle.relay_world.proofs.StopLemmas.{staying_down_keeps}
use Rattle.relay_world.proofs.laws.staying_down_keeps.Goals as goal

pub returns : goal.returns
returns g c = staying_down_keeps g.D.Disk.honest g.D.Disk.words
