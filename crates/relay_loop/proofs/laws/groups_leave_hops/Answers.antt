use Rattle.relay_loop.proofs.GroupHopLemmas.{groups_leave_hops}
use Rattle.relay_loop.proofs.laws.groups_leave_hops.Goals as goal

pub returns : goal.returns
returns g c = groups_leave_hops g.D.Disk.honest g.D.Disk.words
