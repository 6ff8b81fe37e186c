use Rattle.relay_connections.proofs.ArrivalLemmas.{reads_are_one}
use Rattle.relay_connections.proofs.laws.reads_are_one.Goals as goal

pub returns : goal.returns
returns g c = reads_are_one g.S.Stream.remaining g.S.Stream.contents
