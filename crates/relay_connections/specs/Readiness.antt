-- Connections of clients with octets that were not read to the end: the system won't report these again, so the relay
-- mustn't wait before they are used.
use Rattle.std.specs.Prelude.{◌≡◌, ◌≢◌, ◌||◌, ℕ, List, [], Option, None, Some, Box}
use Rattle.std.specs.Global.{Global}
use Rattle.mio.specs.Event.{is_error, is_read_closed, is_readable, is_writable, is_write_closed}
use Rattle.mio.specs.declared.event.event.Event.{Event}
use Rattle.relay_slots.specs.Slots.{OthersStay, slot_at}
use Rattle.relay_loop.specs.Outboxes.{unwritten_at}
use Rattle.relay_loop.specs.Relay.{RelayState}
use Rattle.relay_connections.specs.Channel.{KeepsOctets, held_of, noted, unread_of}
use Rattle.relay_connections.specs.declared.channel.Readiness.{Readiness}
use Rattle.relay_connections.specs.declared.client.Client.{Client}
use Rattle.relay_connections.specs.declared.clients.Clients.{Clients}

-- What the system reports of a connection in an event. An error is found by a read as well as by a write. The end of
-- the input and an error are reported once, even if octets before them are still to be read.
abbrev pub readiness_of : Event → Readiness
readiness_of event = record {
  reads = is_readable event || is_read_closed event || is_error event;
  writes = is_writable event || is_write_closed event || is_error event;
  ends = is_read_closed event || is_error event;
}

-- the clients, each under the number of its session
abbrev pub clients_of : {S : Type 0} → Clients S → List (Option (Box (Client S) Global))
clients_of clients = clients.clients

-- the client of this number has octets that were not read to the end, and nothing is unwritten for it
pub record IsLeftClient {S D : Type 0} (clients : List (Option (Box (Client S) Global))) (relay : RelayState D)
    (number : ℕ) : Type 0 where
  pub client : Box (Client S) Global
  pub there : slot_at clients number ≡ Some client
  pub unread : unread_of client.value.channel ≢ []
  pub held : held_of client.value.channel ≡ []
  pub written : unwritten_at relay.clients number ≡ []

-- the client in a slot, if any, is the same, except for its connection's readiness
abbrev pub IsStill : {S : Type 0} → Option (Box (Client S) Global) → Option (Box (Client S) Global) → Type 0
IsStill None new = new ≡ None
IsStill (Some client) None = ⊥
IsStill (Some client) (Some later) =
    (later.value.peer ≡ client.value.peer) × KeepsOctets client.value.channel later.value.channel

-- a client after the system has reported this of its connection
abbrev pub noted_client : {S : Type 0} → Readiness → Client S → Client S
noted_client reported client = record client { channel = noted reported client.channel }

-- the client of this number is the same except for that, and all others are as before
pub record IsNoted {S : Type 0} (number : ℕ) (old new : List (Option (Box (Client S) Global))) : Type 0 where
  pub still : IsStill (slot_at old number) (slot_at new number)
  pub others : OthersStay old new number

-- the client in a slot, if any, after the system has reported this of its connection: nothing else of it has changed
abbrev pub HasNoted
    : {S : Type 0} → Readiness → Option (Box (Client S) Global) → Option (Box (Client S) Global) → Type 0
HasNoted reported None new = new ≡ None
HasNoted reported (Some client) None = ⊥
HasNoted reported (Some client) (Some later) = later.value ≡ noted_client reported client.value
