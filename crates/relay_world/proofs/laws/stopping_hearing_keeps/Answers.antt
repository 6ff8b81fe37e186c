use Rattle.relay_world.proofs.StopHearLemmas.{stopping_hearing_keeps}
use Rattle.relay_world.proofs.laws.stopping_hearing_keeps.Goals as goal

pub returns : goal.returns
returns g c = stopping_hearing_keeps g.D.Disk.honest g.D.Disk.words
