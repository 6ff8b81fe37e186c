use Rattle.relay_world.proofs.StopLemmas.{stopping_keeps}
use Rattle.relay_world.proofs.laws.stopping_keeps.Goals as goal

pub returns : goal.returns
returns g c = stopping_keeps g.D.Disk.honest g.D.Disk.words
