use Rattle.relay_daemon.proofs.TalkLemmas.{talking}
use Rattle.relay_daemon.proofs.laws.connections_talk.Goals as goal

pub returns : goal.returns
returns g c = talking g.D.Disk.honest g.D.Disk.words
