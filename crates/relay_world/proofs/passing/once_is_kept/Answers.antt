use Rattle.relay_world.proofs.RunLemmas.{once_is_kept}
use Rattle.relay_world.proofs.passing.once_is_kept.Goals as goal

pub returns : goal.returns
returns g c = once_is_kept g.D.Disk.honest g.D.Disk.words
