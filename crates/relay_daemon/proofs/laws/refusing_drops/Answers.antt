use Rattle.relay_daemon.proofs.DropLemmas.{dropping}
use Rattle.relay_daemon.proofs.laws.refusing_drops.Goals as goal

pub returns : goal.returns
returns g c = dropping
