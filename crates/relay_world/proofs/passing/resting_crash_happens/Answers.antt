use Rattle.relay_world.proofs.CrashRestLemmas.{resting_crash_happens}
use Rattle.relay_world.proofs.passing.resting_crash_happens.Goals as goal

pub returns : goal.returns
returns g c = resting_crash_happens g.D.Disk.honest g.D.Disk.words
