use Rattle.relay_world.proofs.StartLemmas.{starting_keeps}
use Rattle.relay_world.proofs.laws.starting_keeps.Goals as goal

pub returns : goal.returns
returns g c = starting_keeps g.D.Disk.honest g.D.Disk.words
