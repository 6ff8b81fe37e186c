use Rattle.relay_world.proofs.EndLemmas.{ending_keeps}
use Rattle.relay_world.proofs.laws.ending_keeps.Goals as goal

pub returns : goal.returns
returns g c = ending_keeps g.D.Disk.honest g.D.Disk.words
