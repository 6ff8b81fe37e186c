use Rattle.relay_daemon.proofs.EndLemmas.{cutting_off}
use Rattle.relay_daemon.proofs.laws.cutting_off_closes.Goals as goal

pub returns : goal.returns
returns g c = cutting_off
