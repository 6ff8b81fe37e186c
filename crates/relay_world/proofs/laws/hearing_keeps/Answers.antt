use Rattle.relay_world.proofs.HearLemmas.{hearing_keeps}
use Rattle.relay_world.proofs.laws.hearing_keeps.Goals as goal

pub returns : goal.returns
returns g c = hearing_keeps g.D.Disk.honest g.D.Disk.words
