-- What was read and heard stays, and so does the delivery; each octet goes once, and deadlines begin anew where some went;
-- clients are left alone.
use Rattle.std.proofs.Common.{◌≡◌}
use Rattle.std.specs.Io.KnownBytes.{Keeps}
use Rattle.relay_connections.specs.Channel.{unread_of}
use Rattle.relay_connections.specs.Served.{LeavesClients}
use Rattle.relay_next_hops.specs.Deliveries.{KeepsDelivery}
use Rattle.relay_next_hops.specs.Sending.{sent_by}
use Rattle.relay_next_hops.specs.Waiting.{WaitsAfterWrite}
use Rattle.relay_next_hops.proofs.hop.Hop.flush.Given as goal

abbrev pub invariant-loop : goal.invariant-loop
invariant-loop g l =
    KeepsDelivery l.initial.self l.self × (l.self.attempt ≡ l.initial.self.attempt)
    × (unread_of l.self.channel ≡ unread_of l.initial.self.channel) × (l.self.hears ≡ l.initial.self.hears)
    × (l.self.talk ≡ l.initial.self.talk)
    × LeavesClients g.D.Disk.honest g.D.Disk.words l.initial.relay l.relay
    × Keeps (sent_by g.S.Stream.remaining g.S.Stream.contents l.attempt l.initial.relay l.initial.self.channel) (sent_by g.S.Stream.remaining g.S.Stream.contents l.attempt l.relay l.self.channel)
    × WaitsAfterWrite l.now.tick l.attempt l.initial.relay l.relay l.initial.self l.self
