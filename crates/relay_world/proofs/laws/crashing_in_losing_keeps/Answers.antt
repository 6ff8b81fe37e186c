use Rattle.relay_world.proofs.CrashEndLemmas.{crashing_in_losing_keeps}
use Rattle.relay_world.proofs.laws.crashing_in_losing_keeps.Goals as goal

pub returns : goal.returns
returns g c = crashing_in_losing_keeps g.D.Disk.honest g.D.Disk.words
