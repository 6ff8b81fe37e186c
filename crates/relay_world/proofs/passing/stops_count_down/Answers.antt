use Rattle.relay_world.proofs.FuseLemmas.{stops_count_down}
use Rattle.relay_world.proofs.passing.stops_count_down.Goals as goal

pub returns : goal.returns
returns g c = stops_count_down g.D.Disk.honest g.D.Disk.words
