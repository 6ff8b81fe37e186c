use Rattle.relay_connections.proofs.ArrivalLemmas.{reads_on_on}
use Rattle.relay_connections.proofs.arrival.Arrival.read.Goals as goal

pub returns-then-not-read_some-clause-reads_on : goal.returns-then-not-read_some-clause-reads_on
returns-then-not-read_some-clause-reads_on g c =
    reads_on_on g.S.Stream.remaining g.S.Stream.contents c.args.self.now c.loop.self c.read_some.new.self c.loop.invariant c.read_some.ensures.reads_on
