use Rattle.relay_world.proofs.CrashRunLemmas.{crashing_keeps_once}
use Rattle.relay_world.proofs.passing.crashing_keeps_once.Goals as goal

pub returns : goal.returns
returns g c = crashing_keeps_once g.D.Disk.honest g.D.Disk.words
