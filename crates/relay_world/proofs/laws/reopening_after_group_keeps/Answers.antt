use Rattle.relay_world.proofs.ReopenGroupLemmas.{reopening_after_group_keeps}
use Rattle.relay_world.proofs.laws.reopening_after_group_keeps.Goals as goal

pub returns : goal.returns
returns g c = λ h. reopening_after_group_keeps g.D.Disk.honest g.D.Disk.words (g.met.D.Disk.sees_now h) h
