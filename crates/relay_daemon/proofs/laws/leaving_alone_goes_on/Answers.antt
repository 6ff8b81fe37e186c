use Rattle.relay_daemon.proofs.AloneLemmas.{alone_both}
use Rattle.relay_daemon.proofs.laws.leaving_alone_goes_on.Goals as goal

pub returns : goal.returns
returns g c = alone_both
