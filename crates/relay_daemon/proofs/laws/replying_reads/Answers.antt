use Rattle.relay_daemon.proofs.ReplyLemmas.{replying}
use Rattle.relay_daemon.proofs.laws.replying_reads.Goals as goal

pub returns : goal.returns
returns g c = replying g.D.Disk.honest g.D.Disk.words
