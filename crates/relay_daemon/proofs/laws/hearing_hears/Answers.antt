use Rattle.relay_daemon.proofs.HearOneLemmas.{hearing_one}
use Rattle.relay_daemon.proofs.laws.hearing_hears.Goals as goal

pub returns : goal.returns
returns g c = hearing_one g.D.Disk.honest g.D.Disk.words
