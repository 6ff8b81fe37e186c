use Rattle.relay_daemon.proofs.AloneLemmas.{alone_runs_on}
use Rattle.relay_daemon.proofs.laws.left_alone_runs_on.Goals as goal

pub returns : goal.returns
returns g c = alone_runs_on
