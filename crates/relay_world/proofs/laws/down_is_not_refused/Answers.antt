use Rattle.relay_world.proofs.FoundLemmas.{down_is_not_refused}
use Rattle.relay_world.proofs.laws.down_is_not_refused.Goals as goal

pub returns : goal.returns
returns g c = λ h. down_is_not_refused g.D.Disk.honest g.D.Disk.words (g.met.D.Disk.sees_now h) h
