use Rattle.relay_daemon.proofs.StayLemmas.{trimming}
use Rattle.relay_daemon.proofs.laws.trimming_goes_on.Goals as goal

pub returns : goal.returns
returns g c = trimming g.D.Disk.honest g.D.Disk.words
