use Rattle.relay_world.proofs.PassingLemmas.{taken_is_accepted}
use Rattle.relay_world.proofs.passing.taken_is_accepted.Goals as goal

pub returns : goal.returns
returns g c = taken_is_accepted g.D.Disk.honest g.D.Disk.words
