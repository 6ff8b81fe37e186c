use Rattle.relay_connections.proofs.ServedLemmas.{served_goes_on}
use Rattle.relay_connections.proofs.laws.served_goes_on.Goals as goal

pub returns : goal.returns
returns g c = served_goes_on g.D.Disk.honest g.D.Disk.words g.S.Stream.remaining g.S.Stream.contents
