use Rattle.relay_world.proofs.TransferLemmas.{transferred_is_accepted}
use Rattle.relay_world.proofs.passing.transferred_is_accepted.Goals as goal

pub returns : goal.returns
returns g c = transferred_is_accepted g.D.Disk.honest g.D.Disk.words
