use Rattle.relay_daemon.proofs.StayLemmas.{compacting}
use Rattle.relay_daemon.proofs.laws.compacting_is_an_event.Goals as goal

pub returns : goal.returns
returns g c = compacting g.D.Disk.honest g.D.Disk.words
