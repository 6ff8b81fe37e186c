use Rattle.relay_daemon.proofs.LoseLemmas.{losing}
use Rattle.relay_daemon.proofs.laws.losing_is_an_event.Goals as goal

pub returns : goal.returns
returns g c = losing g.D.Disk.honest g.D.Disk.words
