use Rattle.relay_world.proofs.GroupLemmas.{hearing_all_keeps}
use Rattle.relay_world.proofs.laws.hearing_all_keeps.Goals as goal

pub returns : goal.returns
returns g c = hearing_all_keeps g.D.Disk.honest g.D.Disk.words
