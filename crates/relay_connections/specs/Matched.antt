-- The table of clients agrees with the relay: there is a client under each number for which the relay has a connection
-- and its node a session, and the client's address is that of the session's peer, which the trace header of its mail
-- names.
use Rattle.std.specs.Prelude.{◌≡◌, ◌≢◌, true, ℕ, List, Option, None, Some, Box, is_some}
use Rattle.std.specs.Global.{Global}
use Rattle.std.specs.Net.Addr.{ipv4_octets}
use Rattle.std.specs.Net.Socket.{v4_ip}
use Rattle.relay_slots.specs.Slots.{slot_at}
use Rattle.relay_node.specs.declared.seat.Seat.{Seat}
use Rattle.relay_loop.specs.Relay.{RelayState}
use Rattle.relay_connections.specs.Exchange.{OnlyOutbox}
use Rattle.relay_connections.specs.Sessions.{EndsAlone}
use Rattle.relay_connections.specs.declared.client.Client.{Client}
use Rattle.std.specs.declared.net.socket_addr.SocketAddrV4.{SocketAddrV4}

-- the session of a number belongs to this peer
pub record IsOfPeer (seats : List (Option Seat)) (number : ℕ) (peer : List ℕ) : Type 0 where
  pub seat : Seat
  pub there : slot_at seats number ≡ Some seat
  pub same : seat.peer ≡ peer

-- the client, the connection and the session of a number agree
pub record IsMatched {S D : Type 0} (clients : List (Option (Box (Client S) Global))) (relay : RelayState D)
    (number : ℕ) : Type 0 where
  pub connection : is_some (slot_at relay.clients number) ≡ is_some (slot_at clients number)
  pub session : is_some (slot_at relay.node.seats number) ≡ is_some (slot_at clients number)
  pub peer : (client : Box (Client S) Global) → slot_at clients number ≡ Some client
      → IsOfPeer relay.node.seats number (ipv4_octets (v4_ip client.value.peer))

-- they agree for all numbers
abbrev pub AreMatched : {S D : Type 0} → List (Option (Box (Client S) Global)) → RelayState D → Type 0
AreMatched clients relay = (number : ℕ) → IsMatched clients relay number

-- There is at most one more client than before, at this address; all others are as before.
pub record Opens {S D : Type 0} (peer : SocketAddrV4) (old new : List (Option (Box (Client S) Global)))
    (relay : RelayState D) : Type 0 where
  pub matched : AreMatched new relay
  pub others : (number : ℕ) → slot_at old number ≢ None → slot_at new number ≡ slot_at old number
  pub opened : (number : ℕ) (client : Box (Client S) Global) → slot_at old number ≡ None
      → slot_at new number ≡ Some client → client.value.peer ≡ peer

-- A session that was open has ended: its connection is gone, and its number is free.
pub record IsFreed {D : Type 0} (session : ℕ) (old new : RelayState D) : Type 0 where
  pub ended : EndsAlone session old new
  pub seat : old.node.records.spool.live ≡ true → slot_at old.clients session ≢ None
      → slot_at old.node.seats session ≢ None → slot_at new.node.seats session ≡ None

-- a session has this client, who is this peer, or has ended
abbrev pub IsGreeted : {S D : Type 0} → ℕ → SocketAddrV4 → RelayState D → RelayState D
    → Option (Box (Client S) Global) → Type 0
IsGreeted session peer old new None = IsFreed session old new
IsGreeted session peer old new (Some client) = (client.value.peer ≡ peer) × OnlyOutbox session old new
