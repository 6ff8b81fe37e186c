use Rattle.relay_world.proofs.RunLemmas.{runs_keep_all}
use Rattle.relay_world.proofs.passing.runs_keep_all.Goals as goal

pub returns : goal.returns
returns g c = λ h. runs_keep_all g.D.Disk.honest g.D.Disk.words (g.met.D.Disk.sees_now h) h
