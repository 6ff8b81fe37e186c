use Rattle.relay_world.proofs.PassingLemmas.{others_are_not_held}
use Rattle.relay_world.proofs.passing.others_are_not_held.Goals as goal

pub returns : goal.returns
returns g c = others_are_not_held g.D.Disk.honest g.D.Disk.words
