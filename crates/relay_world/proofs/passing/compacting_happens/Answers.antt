use Rattle.relay_world.proofs.CrashRestLemmas.{compacting_happens}
use Rattle.relay_world.proofs.passing.compacting_happens.Goals as goal

pub returns : goal.returns
returns g c = compacting_happens g.D.Disk.honest g.D.Disk.words
