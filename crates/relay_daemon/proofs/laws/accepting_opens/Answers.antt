use Rattle.relay_daemon.proofs.AcceptLemmas.{accepting}
use Rattle.relay_daemon.proofs.laws.accepting_opens.Goals as goal

pub returns : goal.returns
returns g c = accepting
