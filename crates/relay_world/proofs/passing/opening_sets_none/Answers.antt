use Rattle.relay_world.proofs.FuseLemmas.{opening_sets_none}
use Rattle.relay_world.proofs.passing.opening_sets_none.Goals as goal

pub returns : goal.returns
returns g c = opening_sets_none g.D.Disk.honest g.D.Disk.words
