-- A client that has come: which one is served, and what another one gets.
use Rattle.std.specs.Prelude.{◌≡◌, ℕ, Bool, true, false, List, ◌++◌, codes, Option, None, Some, Box}
use Rattle.std.specs.Global.{Global}
use Rattle.std.specs.Io.KnownBytes.{append_known}
use Rattle.std.specs.Net.Addr.{ipv4_octets}
use Rattle.std.specs.Net.Socket.{v4_ip}
use Rattle.relay_lines.specs.Reply.{one_line, reply_text}
use Rattle.relay_limits.specs.AllowedClients.{may_connect}
use Rattle.relay_limits.specs.declared.limits.Limits.{Limits}
use Rattle.relay_log.specs.declared.client_line.Refusal.{Refusal}
use Rattle.relay_log.specs.declared.client_line.Refusal.TheVariants.{NoRoom, NoService, Stopping}
use Rattle.relay_loop.specs.Closing.{closing_of}
use Rattle.relay_loop.specs.Relay.{RelayState}
use Rattle.relay_loop.specs.declared.closing.Closing.TheVariants.{Stopping as StoppingLine, TooMany}
use Rattle.relay_routes.specs.declared.network.Network.{Network}
use Rattle.relay_slots.specs.Slots.{slot_at}
use Rattle.relay_connections.specs.Leaving.{IsOneOf}
use Rattle.relay_connections.specs.Matched.{AreMatched}
use Rattle.relay_connections.specs.Readiness.{clients_of}
use Rattle.relay_connections.specs.Room.{HasRoom}
use Rattle.relay_connections.specs.declared.client.Client.{Client}
use Rattle.relay_connections.specs.declared.clients.Clients.{Clients}
use Rattle.relay_connections.specs.declared.leaving.Leaver.{Leaver}

-- the networks of the clients that may connect, where any are named
abbrev pub allowed_of : {S : Type 0} → Clients S → Option (List Network)
allowed_of clients = clients.allowed

-- the client at this address may connect
abbrev pub MayConnect : {S : Type 0} → List ℕ → Clients S → Type 0
MayConnect address clients = may_connect (allowed_of clients) address ≡ true

-- each client of the table has its session, whose peer it is, and may connect
pub record AreAllowed {S D : Type 0} (clients : Clients S) (relay : RelayState D) : Type 0 where
  pub matched : AreMatched (clients_of clients) relay
  pub each : (number : ℕ) (client : Box (Client S) Global) → slot_at (clients_of clients) number ≡ Some client
      → MayConnect (ipv4_octets (v4_ip client.value.peer)) clients

-- The rules by which clients are served: which ones may connect, whether any more are served, how many at one address,
-- how many seconds one may be idle, and the tick, if any, at which the sessions that are left are ended.
pub record Rules : Type 0 where
  pub allowed : Option (List Network)
  pub stops : Bool
  pub most : ℕ
  pub timeout : ℕ
  pub retires_at : Option ℕ

abbrev pub rules_of : {S : Type 0} → Clients S → Rules
rules_of clients = record {
  allowed = allowed_of clients;
  stops = clients.stops;
  most = clients.most;
  timeout = clients.timeout;
  retires_at = clients.retires_at;
}

-- the rules stay as they were
abbrev pub KeepsRules : {S : Type 0} → Clients S → Clients S → Type 0
KeepsRules old new = rules_of new ≡ rules_of old

-- what holds throughout a turn: the rules, and whether few places are left
pub record TurnRules : Type 0 where
  pub rules : Rules
  pub crowded : Bool

abbrev pub turn_of : {S : Type 0} → Clients S → TurnRules
turn_of clients = record { rules = rules_of clients; crowded = clients.is_crowded }

-- they stay as they were
abbrev pub KeepsTurn : {S : Type 0} → Clients S → Clients S → Type 0
KeepsTurn old new = turn_of new ≡ turn_of old

-- what was refused in this turn because the spool is full stays noted
abbrev pub KeepsFull : {S : Type 0} → Clients S → Clients S → Type 0
KeepsFull old new = old.intake.was_full ≡ true → new.intake.was_full ≡ true

-- no more clients are served
abbrev pub stopped : {S : Type 0} → Clients S → Clients S
stopped clients = record clients { stops = true }

-- Sessions are ended: each one between mail transactions from now on, and at this tick all that are left.
abbrev pub retiring : {S : Type 0} → ℕ → Clients S → Clients S
retiring end clients = record clients { retires_at = Some end }

-- none is ended any more, unless its client is late
abbrev pub staying : {S : Type 0} → Clients S → Clients S
staying clients = record clients { retires_at = None }

-- clients are served by these limits, and those in these networks, if any are named, may connect; no session is ended
abbrev pub reconfigured : {S : Type 0} → Limits → Option (List Network) → Clients S → Clients S
reconfigured limits allowed clients = record clients {
  allowed = allowed;
  most = limits.sessions_per_client;
  timeout = limits.client_timeout;
  retires_at = None;
}

-- there is room for one more client at this address, and clients are served
abbrev pub IsOpenFor : {S : Type 0} → List ℕ → Clients S → Type 0
IsOpenFor address clients = HasRoom address clients × (clients.stops ≡ false)

-- Why the client at this address isn't served: it may not connect; or it may, and the relay is stopping, or else there
-- is no room for it. It is served if it may connect, the relay isn't stopping, and there is room.
abbrev pub IsRefusedFor : {S : Type 0} → List ℕ → Clients S → Option Refusal → Type 0
IsRefusedFor address clients None = MayConnect address clients × IsOpenFor address clients
IsRefusedFor address clients (Some NoRoom) =
    MayConnect address clients × (clients.stops ≡ false) × ¬ HasRoom address clients
IsRefusedFor address clients (Some Stopping) = MayConnect address clients × (clients.stops ≡ true)
IsRefusedFor address clients (Some NoService) = may_connect (allowed_of clients) address ≡ false

-- the one line that such a client gets of this host: 421 (RFC 5321, section 3.8), or 554 (section 3.1)
abbrev pub refusal_of : List ℕ → Refusal → List ℕ
refusal_of host NoRoom = closing_of host TooMany
refusal_of host Stopping = closing_of host StoppingLine
refusal_of host NoService = reply_text (one_line 554 (host ++ codes " no service"))

-- The words below are of what is known of the streams of connections.
module _ {S : Type 0} (remaining contents : S → Option (List ℕ)) where
  -- What leaves under a number is as before. If nothing did, the connection of this stream may, whose peer gets this
  -- line and nothing after it.
  abbrev pub MayLeaveWith : S → List ℕ → Option (Box (Leaver S) Global) → Option (Box (Leaver S) Global) → Type 0
  MayLeaveWith stream line None None = Unit {0}
  MayLeaveWith stream line None (Some leaver) =
      IsOneOf remaining contents None (append_known (contents stream) line) leaver.value
  MayLeaveWith stream line (Some leaver) new = new ≡ Some leaver

  -- so it is of all numbers
  abbrev pub LeavesWith
      : S → List ℕ → List (Option (Box (Leaver S) Global)) → List (Option (Box (Leaver S) Global)) → Type 0
  LeavesWith stream line old new = (number : ℕ) → MayLeaveWith stream line (slot_at old number) (slot_at new number)
