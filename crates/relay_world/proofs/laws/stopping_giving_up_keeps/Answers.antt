use Rattle.relay_world.proofs.StopLemmas.{stopping_giving_up_keeps}
use Rattle.relay_world.proofs.laws.stopping_giving_up_keeps.Goals as goal

pub returns : goal.returns
returns g c = stopping_giving_up_keeps g.D.Disk.honest g.D.Disk.words
