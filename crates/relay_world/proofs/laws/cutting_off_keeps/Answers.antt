use Rattle.relay_world.proofs.EndLemmas.{cutting_off_keeps}
use Rattle.relay_world.proofs.laws.cutting_off_keeps.Goals as goal

pub returns : goal.returns
returns g c = cutting_off_keeps g.D.Disk.honest g.D.Disk.words
