use Rattle.relay_world.proofs.UnsoundLemmas.{stopping_is_failing}
use Rattle.relay_world.proofs.passing.stopping_is_failing.Goals as goal

pub returns : goal.returns
returns g c = stopping_is_failing g.D.Disk.honest g.D.Disk.words
