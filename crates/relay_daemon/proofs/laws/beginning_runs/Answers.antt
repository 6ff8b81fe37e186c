use Rattle.relay_daemon.proofs.BeginLemmas.{beginning}
use Rattle.relay_daemon.proofs.laws.beginning_runs.Goals as goal

pub returns : goal.returns
returns g c = beginning
