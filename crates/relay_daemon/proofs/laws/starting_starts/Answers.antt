use Rattle.relay_daemon.proofs.StartLemmas.{starting}
use Rattle.relay_daemon.proofs.laws.starting_starts.Goals as goal

pub returns : goal.returns
returns g c = starting g.D.Disk.honest g.D.Disk.words
