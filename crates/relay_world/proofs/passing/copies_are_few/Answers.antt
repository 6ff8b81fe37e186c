use Rattle.relay_world.proofs.CopiesLemmas.{copies_are_few}
use Rattle.relay_world.proofs.passing.copies_are_few.Goals as goal

pub returns : goal.returns
returns g c = copies_are_few g.D.Disk.honest g.D.Disk.words
