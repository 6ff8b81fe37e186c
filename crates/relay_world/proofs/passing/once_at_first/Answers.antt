use Rattle.relay_world.proofs.RunLemmas.{once_at_first}
use Rattle.relay_world.proofs.passing.once_at_first.Goals as goal

pub returns : goal.returns
returns g c = once_at_first g.D.Disk.words
