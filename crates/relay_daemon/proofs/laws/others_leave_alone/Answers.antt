use Rattle.relay_daemon.proofs.OtherNodeLemmas.{others_leave}
use Rattle.relay_daemon.proofs.laws.others_leave_alone.Goals as goal

pub returns : goal.returns
returns g c = others_leave g.D.Disk.honest g.D.Disk.words
