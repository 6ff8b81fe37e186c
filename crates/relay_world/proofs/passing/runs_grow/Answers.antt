use Rattle.relay_world.proofs.GrowthLemmas.{runs_grow}
use Rattle.relay_world.proofs.passing.runs_grow.Goals as goal

pub returns : goal.returns
returns g c = runs_grow g.D.Disk.honest g.D.Disk.words
