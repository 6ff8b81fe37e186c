use Rattle.relay_world.proofs.CustodyLemmas.{custody_is_kept}
use Rattle.relay_world.proofs.laws.custody_is_kept.Goals as goal

pub returns : goal.returns
returns g c = custody_is_kept g.D.Disk.honest g.D.Disk.words
