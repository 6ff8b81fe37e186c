use Rattle.relay_daemon.proofs.EachLemmas.{hearing_all}
use Rattle.relay_daemon.proofs.laws.hearing_all_is_an_event.Goals as goal

pub returns : goal.returns
returns g c = hearing_all g.D.Disk.honest g.D.Disk.words c.none_is_awaited.ensures
