use Rattle.relay_connections.proofs.ServedLemmas.{served_are_matched}
use Rattle.relay_connections.proofs.laws.served_are_matched.Goals as goal

pub returns : goal.returns
returns g c = served_are_matched g.D.Disk.honest g.D.Disk.words g.S.Stream.remaining g.S.Stream.contents
