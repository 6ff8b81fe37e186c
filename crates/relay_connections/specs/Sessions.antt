-- Ending a client's session, because its connection has ended or the relay cuts it off.
use Rattle.std.specs.Prelude.{◌≡◌, ◌≢◌, ◌⊎◌, ℕ, ◌≤◌, ◌<◌, Bool, false, List, [], Option, None, Some, Box, MatchOption}
use Rattle.std.specs.Prelude.{◌==◌, if◌then◌else◌, min}
use Rattle.std.specs.Global.{Global}
use Rattle.relay_slots.specs.Slots.{slot_at}
use Rattle.relay_loop.specs.declared.closing.Closing.{Closing}
use Rattle.relay_loop.specs.declared.closing.Closing.TheVariants.{Stopping, Timeout, TooMany}
use Rattle.relay_loop.specs.Clients.{IsUnknown}
use Rattle.relay_loop.specs.Closing.{closing_of}
use Rattle.relay_loop.specs.Outboxes.{unwritten_at}
use Rattle.relay_loop.specs.Relay.{OnlyClient, RelayState}
use Rattle.relay_node.specs.Seats.{in_transaction_at}
use Rattle.relay_connections.specs.Channel.{held_of}
use Rattle.relay_connections.specs.Readiness.{clients_of}
use Rattle.relay_connections.specs.declared.channel.Channel.{Channel}
use Rattle.relay_connections.specs.declared.client.Client.{Client}
use Rattle.relay_connections.specs.declared.clients.Clients.{Clients}
use Rattle.relay_connections.specs.declared.client.Next.{Next}
use Rattle.relay_connections.specs.declared.client.Next.TheVariants.{Stays, Leaves, Gone}

-- the connection of a session is gone, no change was added, and all other connections stay
pub record EndsAlone {D : Type 0} (session : ℕ) (old new : RelayState D) : Type 0 where
  pub gone : slot_at new.clients session ≡ None
  pub only : OnlyClient old new session
  pub records : new.node.records ≡ old.node.records

-- After the end of its input a client's unwritten octets are still written. The connection is closed at once only if it
-- isn't known.
abbrev pub LeavesWithAll : {D : Type 0} → RelayState D → ℕ → Next → Type 0
LeavesWithAll old session Stays = ⊥
LeavesWithAll old session (Leaves last) = slot_at old.clients session ≡ Some last
LeavesWithAll old session Gone = IsUnknown old session

-- the last octets of a client that is cut off, if there are any, are the one line that says why (RFC 5321, section 3.8)
abbrev pub IsTold : List ℕ → Closing → Next → Type 0
IsTold host why Stays = ⊥
IsTold host why (Leaves last) = last ≡ closing_of host why
IsTold host why Gone = Unit {0}

-- it gets that line only if nothing was unwritten, so that it follows whole replies
abbrev pub IsCutOff : {D : Type 0} → RelayState D → ℕ → Closing → Next → Type 0
IsCutOff old session why Stays = ⊥
IsCutOff old session why (Leaves last) =
    (slot_at old.clients session ≡ Some []) × (last ≡ closing_of old.node.config.host why)
IsCutOff old session why Gone = Unit {0}

-- it gets the line only if nothing is held back either
abbrev pub IsCutOffAfter : {D S : Type 0} → RelayState D → ℕ → Channel S → Closing → Next → Type 0
IsCutOffAfter old session channel why Stays = ⊥
IsCutOffAfter old session channel why (Leaves last) = (held_of channel ≡ []) × IsCutOff old session why (Leaves last)
IsCutOffAfter old session channel why Gone = Unit {0}

-- the tick at which a client is cut off unless few places are left: when it has been idle for too long, or its session
-- has lasted too long without accepted mail
abbrev pub usual_deadline : {S : Type 0} → Client S → ℕ
usual_deadline client = min client.idle_deadline client.session_deadline

-- the tick at which it is cut off if few places are left, none of its mail was accepted, and nothing is unanswered
abbrev pub crowded_deadline : {S : Type 0} → Client S → ℕ
crowded_deadline client = min (usual_deadline client) client.crowded_deadline

-- the tick at which it is cut off as things are, given whether few places are left
abbrev pub deadline_of : {S : Type 0} → Bool → Client S → ℕ
deadline_of is_crowded client =
    if is_crowded
    then (if client.has_accepted then usual_deadline client
    else (if client.unanswered == 0 then crowded_deadline client else usual_deadline client))
    else usual_deadline client

-- the client of a session has got all replies, and no mail transaction of it is open
pub record IsBetweenMail {D S : Type 0} (relay : RelayState D) (session : ℕ) (channel : Channel S) : Type 0 where
  pub transaction : in_transaction_at relay.node.seats session ≡ false
  pub held : held_of channel ≡ []
  pub unwritten : unwritten_at relay.clients session ≡ []

-- The sessions are ended, and this one may be at this tick: it is between mail transactions, or the time that others
-- have is over.
abbrev pub Retires : {D S : Type 0} → Clients S → RelayState D → ℕ → Channel S → ℕ → Type 0
Retires clients relay session channel tick =
    MatchOption clients.retires_at ⊥ (λ end. (end ≤ tick) ⊎ IsBetweenMail relay session channel)

-- The session of this number may be ended at once: the sessions are ended, and it is between mail transactions.
pub record MayRetire {D S : Type 0} (clients : Clients S) (relay : RelayState D) (number : ℕ) : Type 0 where
  pub client : Box (Client S) Global
  pub there : slot_at (clients_of clients) number ≡ Some client
  pub ends : clients.retires_at ≢ None
  pub between : IsBetweenMail relay number client.value.channel

-- a deadline, or the tick, if any, at which all sessions that are left are ended, if that is earlier
abbrev pub ended_by : Option ℕ → ℕ → ℕ
ended_by None deadline = deadline
ended_by (Some end) deadline = min deadline end

-- the tick at which a client is cut off at the latest as things are
abbrev pub cut_tick : {S : Type 0} → Clients S → Box (Client S) Global → ℕ
cut_tick clients client = ended_by clients.retires_at (deadline_of clients.is_crowded client.value)

-- why a client is cut off at this tick, if it is: it is late, or else the sessions are ended
abbrev pub IsCutFor : {D S : Type 0} → Clients S → RelayState D → ℕ → Client S → ℕ → Option Closing → Type 0
IsCutFor clients relay session client tick None =
    (tick < deadline_of clients.is_crowded client) × ¬ Retires clients relay session client.channel tick
IsCutFor clients relay session client tick (Some Timeout) = deadline_of clients.is_crowded client ≤ tick
IsCutFor clients relay session client tick (Some Stopping) =
    (tick < deadline_of clients.is_crowded client) × Retires clients relay session client.channel tick
IsCutFor clients relay session client tick (Some TooMany) = ⊥

-- a client that is cut off for this reason, or for none
abbrev pub EndsFor : {D S : Type 0} → RelayState D → ℕ → Channel S → Option Closing → Next → Type 0
EndsFor old session channel None later = later ≡ Stays
EndsFor old session channel (Some why) later = IsCutOffAfter old session channel why later

-- A turn has this result for a client; one that was to stay is cut off if there is a reason.
abbrev pub EndsCut : {D S : Type 0} → Clients S → RelayState D → ℕ → Client S → ℕ → Next → Next → Type 0
EndsCut clients old session client tick Stays later =
    (why : Option Closing) × IsCutFor clients old session client tick why × EndsFor old session client.channel why later
EndsCut clients old session client tick (Leaves last) later = later ≡ Leaves last
EndsCut clients old session client tick Gone later = later ≡ Gone
