use Rattle.relay_loop.proofs.GroupHopLemmas.{groups_hand}
use Rattle.relay_loop.proofs.laws.groups_hand.Goals as goal

pub returns : goal.returns
returns g c = groups_hand g.D.Disk.honest g.D.Disk.words
