-- When the time begins anew for which a client may be idle.
use Rattle.std.specs.Prelude.{◌≡◌, ◌≢◌, ◌≤◌, ◌<◌, ◌+◌, ◌-◌, ◌*◌, ◌^◌, ◌⊎◌, ℕ, true, false, min, length}
use Rattle.std.specs.Prelude.{Option, None, Some, Box}
use Rattle.std.specs.Global.{Global}
use Rattle.relay_slots.specs.Slots.{slot_at}
use Rattle.relay_loop.specs.Outboxes.{unwritten_at}
use Rattle.relay_loop.specs.Relay.{RelayState}
use Rattle.relay_connections.specs.Channel.{held_of, unread_of}
use Rattle.relay_connections.specs.declared.channel.Channel.{Channel}
use Rattle.relay_connections.specs.Readiness.{clients_of}
use Rattle.relay_connections.specs.declared.client.Client.{Client}
use Rattle.relay_connections.specs.declared.clients.Clients.{Clients}
use Rattle.relay_connections.specs.declared.client.Next.{Next}
use Rattle.relay_connections.specs.declared.client.Next.TheVariants.{Stays, Leaves, Gone}

-- how many octets the client of a session hasn't taken yet: those that are held back, and those that are unwritten
abbrev pub untaken_count : {D S : Type 0} → RelayState D → ℕ → Channel S → ℕ
untaken_count relay session channel = length (held_of channel) + length (unwritten_at relay.clients session)

-- the tick this many seconds after another one, or the last tick
abbrev pub tick_after : ℕ → ℕ → ℕ
tick_after tick seconds = min (tick + seconds * 1000) (2 ^ 64 - 1)

-- profile: the tick at which a session ends that begins, or whose client's mail is accepted, at this tick, unless more
-- mail is accepted: half an hour later
abbrev pub session_end : ℕ → ℕ
session_end tick = tick_after tick (30 * 60)

-- A client has just connected: its session begins at this tick, none of its mail was accepted, and nothing that was
-- read of it is unanswered.
pub record IsFresh {S : Type 0} (tick : ℕ) (client : Client S) : Type 0 where
  pub session : client.session_deadline ≡ session_end tick
  pub accepted : client.has_accepted ≡ false
  pub unanswered : client.unanswered ≡ 0

-- The session's time begins anew at this tick if a change was added, which has this number: mail of its client was
-- accepted. Else it goes on.
pub record RenewsSession {S : Type 0} (tick : ℕ) (change : Option ℕ) (before after : Client S) : Type 0 where
  pub anew : change ≢ None → (after.session_deadline ≡ session_end tick) × (after.has_accepted ≡ true)
  pub on : change ≡ None → (after.session_deadline ≡ before.session_deadline)
      × (after.has_accepted ≡ before.has_accepted)

-- The client's idle time begins at this tick: it is cut off after the timeout, or after ten seconds while few places
-- are left.
pub record WaitsAnew {S : Type 0} (timeout tick : ℕ) (client : Client S) : Type 0 where
  pub idle : client.idle_deadline ≡ tick_after tick timeout
  pub crowded : client.crowded_deadline ≡ tick_after tick 10

-- the client's idle time goes on
pub record WaitsOn {S : Type 0} (before after : Client S) : Type 0 where
  pub idle : after.idle_deadline ≡ before.idle_deadline
  pub crowded : after.crowded_deadline ≡ before.crowded_deadline

-- all else on which the client's deadline depends is the same
pub record KeepsWaiting {S : Type 0} (before after : Client S) : Type 0 where
  pub unanswered : after.unanswered ≡ before.unanswered
  pub accepted : after.has_accepted ≡ before.has_accepted
  pub session : after.session_deadline ≡ before.session_deadline

-- the client's idle time begins at this tick, or goes on
abbrev pub WaitsAnewOrOn : {S : Type 0} → ℕ → ℕ → Client S → Client S → Type 0
WaitsAnewOrOn timeout tick before after = WaitsAnew timeout tick after ⊎ WaitsOn before after

-- so it is of the client in a slot, if it stands before and after
abbrev pub SlotWaits
    : {S : Type 0} → ℕ → ℕ → Option (Box (Client S) Global) → Option (Box (Client S) Global) → Type 0
SlotWaits timeout tick None after = Unit {0}
SlotWaits timeout tick (Some before) None = Unit {0}
SlotWaits timeout tick (Some before) (Some after) = WaitsAnewOrOn timeout tick before.value after.value

-- so it is of all clients that stand before and after: each may be idle for as many seconds as the rules say, from this
-- tick on, or for as long as before; and no client is new
abbrev pub AllWait : {S : Type 0} → ℕ → Clients S → Clients S → Type 0
AllWait tick old new = (number : ℕ)
    → SlotWaits old.timeout tick (slot_at (clients_of old) number) (slot_at (clients_of new) number)
    × (slot_at (clients_of old) number ≡ None → slot_at (clients_of new) number ≡ None)

-- Below: a call at a tick, of the client of a session that may be idle for this many seconds.
module _ {D S : Type 0} (timeout tick session : ℕ) (old new : RelayState D) (before after : Client S) where
  -- The client's idle time begins anew exactly if it took an octet: fewer are left that it hasn't taken.
  pub record RenewsIfTaken : Type 0 where
    pub took : untaken_count new session after.channel < untaken_count old session before.channel
        → WaitsAnew timeout tick after
    pub none : untaken_count old session before.channel ≤ untaken_count new session after.channel
        → WaitsOn before after

  -- The client was written to, and then it may have been read from. Its idle time begins anew if it took an octet; else
  -- it goes on, unless octets were read.
  pub record RenewsAndReads : Type 0 where
    pub took : untaken_count new session after.channel < untaken_count old session before.channel
        → WaitsAnew timeout tick after
    pub none : untaken_count old session before.channel ≤ untaken_count new session after.channel
        → unread_of after.channel ≡ unread_of before.channel → WaitsOn before after

  -- the same, unless the connection is closed
  abbrev pub RenewsUnlessOver : Option Next → Type 0
  RenewsUnlessOver None = RenewsAndReads
  RenewsUnlessOver (Some Stays) = RenewsAndReads
  RenewsUnlessOver (Some (Leaves last)) = Unit {0}
  RenewsUnlessOver (Some Gone) = Unit {0}
