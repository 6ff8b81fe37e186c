use Rattle.relay_daemon.proofs.GiveLemmas.{giving_up}
use Rattle.relay_daemon.proofs.laws.giving_up_is_an_event.Goals as goal

pub returns : goal.returns
returns g c = giving_up g.D.Disk.honest g.D.Disk.words
