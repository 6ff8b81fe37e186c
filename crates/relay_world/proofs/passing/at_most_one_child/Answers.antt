use Rattle.relay_world.proofs.ChildrenLemmas.{at_most_one_child}
use Rattle.relay_world.proofs.passing.at_most_one_child.Goals as goal

pub returns : goal.returns
returns g c = at_most_one_child g.D.Disk.honest g.D.Disk.words
