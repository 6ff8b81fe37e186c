use Rattle.relay_world.proofs.ReopenLemmas.{reopening_keeps}
use Rattle.relay_world.proofs.laws.reopening_keeps.Goals as goal

pub returns : goal.returns
returns g c = λ h. reopening_keeps g.D.Disk.honest g.D.Disk.words (g.met.D.Disk.sees_now h) h
