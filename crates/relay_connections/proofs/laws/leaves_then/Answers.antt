use Rattle.relay_connections.proofs.ServedLemmas.{leaves_then}
use Rattle.relay_connections.proofs.laws.leaves_then.Goals as goal

pub returns : goal.returns
returns g c = leaves_then g.D.Disk.honest g.D.Disk.words
