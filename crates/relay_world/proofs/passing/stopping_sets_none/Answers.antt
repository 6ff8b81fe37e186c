use Rattle.relay_world.proofs.FuseLemmas.{stopping_sets_none}
use Rattle.relay_world.proofs.passing.stopping_sets_none.Goals as goal

pub returns : goal.returns
returns g c = stopping_sets_none g.D.Disk.honest g.D.Disk.words
