use Rattle.std.proofs.Common.{refl}
use Rattle.relay_hosts.proofs.host.DownNode.stop_again.Goals as goal

pub returns : goal.returns
returns g c = record { config = refl; undecided = refl; left = c.stopped.ensures.images; fuse = c.stopped.ensures.fuse }
