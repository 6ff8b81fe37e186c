-- so far what waited went on, nothing was read, the session has said what it had, its client's idle time goes on, and
-- nothing is held back if nothing was
use Rattle.std.proofs.Common.{◌≡◌, []}
use Rattle.relay_connections.specs.Channel.{held_of}
use Rattle.relay_connections.specs.Exchange.{Hands}
use Rattle.relay_connections.specs.Renewal.{KeepsWaiting, WaitsOn}
use Rattle.relay_connections.specs.Served.{StaysSaid}
use Rattle.relay_connections.proofs.client.Client.write_some.Given as goal

abbrev pub invariant-loop : goal.invariant-loop
invariant-loop g l =
    Hands g.S.Stream.remaining g.S.Stream.contents l.fn.session l.fn.relay l.relay l.fn.self.channel l.self.channel
    × (l.self.peer ≡ l.fn.self.peer)
    × StaysSaid l.fn.session l.fn.relay l.relay
    × WaitsOn l.fn.self l.self
    × KeepsWaiting l.fn.self l.self
    × (held_of l.fn.self.channel ≡ [] → held_of l.self.channel ≡ [])
