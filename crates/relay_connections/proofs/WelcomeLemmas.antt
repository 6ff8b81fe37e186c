-- Why a client is served, and that all clients may connect.
use Rattle.std.proofs.Common.{◌≡◌, ℕ, List, Option, None, Some, Box, refl, sym, ap, ◌∙◌, subst}
use Rattle.std.specs.Global.{Global}
use Rattle.std.specs.Net.Addr.{ipv4_octets}
use Rattle.std.specs.Net.Socket.{v4_ip}
use Rattle.std.specs.declared.net.socket_addr.SocketAddrV4.{SocketAddrV4}
use Rattle.relay_limits.specs.AllowedClients.{may_connect}
use Rattle.relay_log.specs.declared.client_line.Refusal.{Refusal}
use Rattle.relay_loop.specs.Relay.{RelayState}
use Rattle.relay_slots.specs.Slots.{slot_at}
use Rattle.relay_connections.specs.Matched.{AreMatched, Opens}
use Rattle.relay_connections.specs.Readiness.{clients_of}
use Rattle.relay_connections.specs.Welcome.{AreAllowed, IsRefusedFor, MayConnect, allowed_of}
use Rattle.relay_connections.specs.declared.client.Client.{Client}
use Rattle.relay_connections.specs.declared.clients.Clients.{Clients}

-- a client that nothing refuses may connect
pub served_connects : {S : Type 0} (address : List ℕ) (clients : Clients S) (found : Option Refusal) → IsRefusedFor address clients found → ((why : Refusal) → found ≡ Some why → ⊥) → MayConnect address clients
served_connects address clients None refused not = refused.0
served_connects address clients (Some why) refused not = absurd (not why refl)

some_is_not_none : {A : Type 0} {value : A} → Some value ≡ None → ⊥
some_is_not_none same = absurd (cc same)

-- all clients may connect where one more is opened that may
pub allowed_opened : {S D : Type 0} (peer : SocketAddrV4) (old new : Clients S) (before after : RelayState D) → allowed_of new ≡ allowed_of old
    → MayConnect (ipv4_octets (v4_ip peer)) old → (AreMatched (clients_of old) before → Opens peer (clients_of old) (clients_of new) after) → AreAllowed old before → AreAllowed new after
allowed_opened {S} peer old new before after same may opens allowed = record {
  matched = opened.matched;
  each = λ number client there. by number client there (slot_at (clients_of old) number) refl;
}
  where
    opened : Opens peer (clients_of old) (clients_of new) after
    opened = opens allowed.matched

    still : (address : List ℕ) → MayConnect address old → MayConnect address new
    still address connects = ap (λ networks. may_connect networks address) same ∙ connects

    by : (number : ℕ) (client : Box (Client S) Global) → slot_at (clients_of new) number ≡ Some client → (slot : Option (Box (Client S) Global)) → slot_at (clients_of old) number ≡ slot
        → MayConnect (ipv4_octets (v4_ip client.value.peer)) new
    by number client there None is =
        still (ipv4_octets (v4_ip client.value.peer))
        (subst (λ (one : SocketAddrV4). MayConnect (ipv4_octets (v4_ip one)) old) (sym (opened.opened number client is there)) may)
    by number client there (Some other) is =
        still (ipv4_octets (v4_ip client.value.peer))
        (allowed.each number client (sym (opened.others number (λ none. some_is_not_none (sym is ∙ none))) ∙ there))
