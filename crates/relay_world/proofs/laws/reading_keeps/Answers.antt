use Rattle.relay_world.proofs.ReadLemmas.{reading_keeps}
use Rattle.relay_world.proofs.laws.reading_keeps.Goals as goal

pub returns : goal.returns
returns g c = reading_keeps g.D.Disk.honest g.D.Disk.words
