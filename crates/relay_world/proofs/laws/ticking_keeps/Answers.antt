use Rattle.relay_world.proofs.TickLemmas.{ticking_keeps}
use Rattle.relay_world.proofs.laws.ticking_keeps.Goals as goal

pub returns : goal.returns
returns g c = ticking_keeps g.D.Disk.honest g.D.Disk.words
