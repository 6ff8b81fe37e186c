use Rattle.relay_world.proofs.GiveUpLemmas.{giving_up_keeps}
use Rattle.relay_world.proofs.laws.giving_up_keeps.Goals as goal

pub returns : goal.returns
returns g c = giving_up_keeps g.D.Disk.honest g.D.Disk.words
