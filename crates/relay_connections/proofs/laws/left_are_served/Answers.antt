use Rattle.relay_connections.proofs.ServedLemmas.{left_are_served}
use Rattle.relay_connections.proofs.laws.left_are_served.Goals as goal

pub returns : goal.returns
returns g c = left_are_served g.D.Disk.honest g.D.Disk.words g.S.Stream.remaining g.S.Stream.contents
