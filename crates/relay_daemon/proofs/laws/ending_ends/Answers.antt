use Rattle.relay_daemon.proofs.EndLemmas.{ending}
use Rattle.relay_daemon.proofs.laws.ending_ends.Goals as goal

pub returns : goal.returns
returns g c = ending
