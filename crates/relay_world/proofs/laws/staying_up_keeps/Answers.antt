use Rattle.relay_world.proofs.StayUpLemmas.{staying_up_keeps}
use Rattle.relay_world.proofs.laws.staying_up_keeps.Goals as goal

pub returns : goal.returns
returns g c = staying_up_keeps g.D.Disk.honest g.D.Disk.words
