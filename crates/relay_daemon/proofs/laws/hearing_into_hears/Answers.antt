use Rattle.relay_daemon.proofs.HearLemmas.{hearing}
use Rattle.relay_daemon.proofs.laws.hearing_into_hears.Goals as goal

pub returns : goal.returns
returns g c = hearing g.D.Disk.honest g.D.Disk.words
