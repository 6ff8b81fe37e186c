use Rattle.relay_world.proofs.ChainLemmas.{chains_are_short}
use Rattle.relay_world.proofs.passing.chains_are_short.Goals as goal

pub returns : goal.returns
returns g c = chains_are_short g.D.Disk.honest g.D.Disk.words
