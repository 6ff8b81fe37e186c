use Rattle.relay_daemon.proofs.GiveLemmas.{withdrawing}
use Rattle.relay_daemon.proofs.laws.withdrawing_is_an_event.Goals as goal

pub returns : goal.returns
returns g c = withdrawing g.D.Disk.honest g.D.Disk.words
