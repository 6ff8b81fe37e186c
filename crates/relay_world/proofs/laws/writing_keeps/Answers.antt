use Rattle.relay_world.proofs.WriteLemmas.{writing_keeps}
use Rattle.relay_world.proofs.laws.writing_keeps.Goals as goal

pub returns : goal.returns
returns g c = writing_keeps g.D.Disk.honest g.D.Disk.words
