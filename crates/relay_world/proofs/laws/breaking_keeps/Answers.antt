use Rattle.relay_world.proofs.BreakLemmas.{breaking_keeps}
use Rattle.relay_world.proofs.laws.breaking_keeps.Goals as goal

pub returns : goal.returns
returns g c = breaking_keeps g.D.Disk.honest g.D.Disk.words
