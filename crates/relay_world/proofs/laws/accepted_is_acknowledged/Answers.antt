use Rattle.relay_world.proofs.WrittenLemmas.{accepted_is_acknowledged}
use Rattle.relay_world.proofs.laws.accepted_is_acknowledged.Goals as goal

pub returns : goal.returns
returns g c = accepted_is_acknowledged g.D.Disk.honest g.D.Disk.words
