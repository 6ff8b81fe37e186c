-- A connection whose header is whole has no client where that says so, or where the system refuses.
use Rattle.std.proofs.Common.{subst}
use Rattle.relay_log.specs.declared.client_line.HeaderFault.TheVariants.{NoMemory, OtherProtocol}
use Rattle.relay_proxy.specs.Header.{IsHeader}
use Rattle.relay_connections.proofs.ArrivalLemmas.{fails}
use Rattle.relay_connections.proofs.arrival.Arrival.arrived.Goals as goal

pub returns-in-Other : goal.returns-in-Other
returns-in-Other g c = λ tick.
    fails g.S.Stream.remaining g.S.Stream.contents tick c.args.self OtherProtocol (subst (IsHeader c.args.self.header) c.in-Other.is c.requires)

pub returns : goal.returns
returns g c = λ tick.
    fails g.S.Stream.remaining g.S.Stream.contents tick c.args.self NoMemory (record { source = c.args.source; is = c.requires })
