-- so far more of the header was read, and nothing else has changed
use Rattle.relay_connections.specs.Arrivals.{ReadsOn}
use Rattle.relay_connections.proofs.arrival.Arrival.read.Given as goal

abbrev pub invariant-loop : goal.invariant-loop
invariant-loop g l = ReadsOn g.S.Stream.remaining g.S.Stream.contents l.fn.self l.self
