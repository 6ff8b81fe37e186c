use Rattle.relay_daemon.proofs.SettleLemmas.{settling}
use Rattle.relay_daemon.proofs.laws.settling_hears_all.Goals as goal

pub returns : goal.returns
returns g c = settling g.D.Disk.honest g.D.Disk.words
