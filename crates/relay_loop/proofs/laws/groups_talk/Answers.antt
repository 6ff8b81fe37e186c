use Rattle.relay_loop.proofs.BecomesLemmas.{groups_talk}
use Rattle.relay_loop.proofs.laws.groups_talk.Goals as goal

pub returns : goal.returns
returns g c = groups_talk g.D.Disk.honest g.D.Disk.words
