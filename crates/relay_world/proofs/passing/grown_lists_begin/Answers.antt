use Rattle.relay_world.proofs.GrowthLemmas.{grown_lists_begin}
use Rattle.relay_world.proofs.passing.grown_lists_begin.Goals as goal

pub returns : goal.returns
returns g c = grown_lists_begin g.D.Disk.honest g.D.Disk.words
