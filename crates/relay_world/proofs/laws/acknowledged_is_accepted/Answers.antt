use Rattle.relay_world.proofs.AcknowledgedLemmas.{acknowledged_is_accepted}
use Rattle.relay_world.proofs.laws.acknowledged_is_accepted.Goals as goal

pub returns : goal.returns
returns g c = acknowledged_is_accepted g.D.Disk.honest g.D.Disk.words
