use Rattle.relay_connections.proofs.ArrivalLemmas.{clients_follow_headers}
use Rattle.relay_connections.proofs.laws.clients_follow_headers.Goals as goal

pub returns : goal.returns
returns g c = clients_follow_headers g.S.Stream.remaining g.S.Stream.contents
