use Rattle.relay_world.proofs.StopReadLemmas.{stopping_losing_keeps}
use Rattle.relay_world.proofs.laws.stopping_losing_keeps.Goals as goal

pub returns : goal.returns
returns g c = stopping_losing_keeps g.D.Disk.honest g.D.Disk.words
