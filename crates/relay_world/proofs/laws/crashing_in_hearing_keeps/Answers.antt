use Rattle.relay_world.proofs.CrashLemmas.{crashing_in_hearing_keeps}
use Rattle.relay_world.proofs.laws.crashing_in_hearing_keeps.Goals as goal

pub returns : goal.returns
returns g c = crashing_in_hearing_keeps g.D.Disk.honest g.D.Disk.words
