use Rattle.relay_world.proofs.HangUpLemmas.{hanging_up_keeps}
use Rattle.relay_world.proofs.laws.hanging_up_keeps.Goals as goal

pub returns : goal.returns
returns g c = hanging_up_keeps g.D.Disk.honest g.D.Disk.words
