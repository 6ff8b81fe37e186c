use Rattle.relay_daemon.proofs.ReadLemmas.{reading}
use Rattle.relay_daemon.proofs.laws.reading_into_reads.Goals as goal

pub returns : goal.returns
returns g c = reading g.D.Disk.honest g.D.Disk.words
