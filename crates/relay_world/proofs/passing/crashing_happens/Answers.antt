use Rattle.relay_world.proofs.CrashRunLemmas.{crashing_happens}
use Rattle.relay_world.proofs.passing.crashing_happens.Goals as goal

pub returns : goal.returns
returns g c = crashing_happens g.D.Disk.honest g.D.Disk.words
