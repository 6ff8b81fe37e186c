-- Whether there is room for one more client.
use Rattle.std.specs.Prelude.{◌<◌, ℕ, Bool, List, Box, bytes_eq}
use Rattle.std.specs.Global.{Global}
use Rattle.std.specs.Net.Addr.{ipv4_octets}
use Rattle.std.specs.Net.Socket.{v4_ip}
use Rattle.relay_slots.specs.declared.slots.TheConstants.{SLOT_COUNT}
use Rattle.relay_connections.specs.declared.client.Client.{Client}
use Rattle.relay_connections.specs.declared.clients.Clients.{Clients}
use Rattle.relay_connections.specs.Readiness.{clients_of}
use Rattle.relay_connections.specs.Table.{count_of, count_of_such}

-- the client is at this IPv4 address
abbrev pub is_at : {S : Type 0} → List ℕ → Box (Client S) Global → Bool
is_at address client = bytes_eq (ipv4_octets (v4_ip client.value.peer)) address

-- profile: there are fewer than 64 clients in all, and fewer than the limit at this address
pub record HasRoom {S : Type 0} (address : List ℕ) (clients : Clients S) : Type 0 where
  pub alike : count_of_such (is_at address) (clients_of clients) < clients.most
  pub all : count_of (clients_of clients) < SLOT_COUNT
