use Rattle.relay_world.proofs.StopReadLemmas.{stopping_reading_keeps}
use Rattle.relay_world.proofs.laws.stopping_reading_keeps.Goals as goal

pub returns : goal.returns
returns g c = stopping_reading_keeps g.D.Disk.honest g.D.Disk.words
