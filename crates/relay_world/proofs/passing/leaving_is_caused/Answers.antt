use Rattle.relay_world.proofs.LeavingLemmas.{leaving_is_caused}
use Rattle.relay_world.proofs.passing.leaving_is_caused.Goals as goal

pub returns : goal.returns
returns g c = leaving_is_caused g.D.Disk.honest g.D.Disk.words
