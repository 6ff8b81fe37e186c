-- How long the connection to a next hop waits for octets.
use Rattle.std.specs.Prelude.{◌≡◌, ◌≢◌, ◌⊎◌, ◌<◌, ◌*◌, ◌==◌, ℕ, Bool, false, not, min, length, List, [], Option, Some}
use Rattle.relay_slots.specs.Slots.{slot_at}
use Rattle.relay_loop.specs.Outboxes.{unwritten_at}
use Rattle.relay_loop.specs.Relay.{RelayState}
use Rattle.relay_connections.specs.Channel.{unread_of}
use Rattle.relay_connections.specs.Renewal.{tick_after}
use Rattle.relay_next_hops.specs.Phases.{patience}
use Rattle.relay_next_hops.specs.declared.hop.Hop.{Hop}
use Rattle.relay_next_hops.specs.declared.phase.Phase.{Phase}
use Rattle.relay_next_hops.specs.declared.phase.Phase.TheVariants.{Command}

-- profile: in seconds, how long a next hop may take for its answer, however often it sends an octet
abbrev pub answer_patience : ℕ
answer_patience = 30 * 60

-- octets for the next hop of an attempt are unwritten
abbrev pub writes_to : {D : Type 0} → RelayState D → ℕ → Bool
writes_to relay attempt = not (length (unwritten_at relay.hops attempt) == 0)

-- From this tick on the next hop may pass without an octet as long as its phase allows, while octets are still to be
-- written or not.
abbrev pub IdlesFrom : {S : Type 0} → ℕ → Bool → Hop S → Type 0
IdlesFrom tick writes hop = hop.idle_deadline ≡ tick_after tick (patience hop.phase writes)

-- The time without an octet begins at this tick. The time for the answer goes on.
pub record IdlesAnew {S : Type 0} (tick : ℕ) (writes : Bool) (old new : Hop S) : Type 0 where
  pub phase : new.phase ≡ old.phase
  pub answer : new.answer_deadline ≡ old.answer_deadline
  pub idle : IdlesFrom tick writes new

-- both times begin at this tick: that without an octet, and that for its answer
pub record WaitsAnew {S : Type 0} (tick : ℕ) (writes : Bool) (hop : Hop S) : Type 0 where
  pub idle : IdlesFrom tick writes hop
  pub answer : hop.answer_deadline ≡ tick_after tick answer_patience

-- both go on
pub record WaitsOn {S : Type 0} (old new : Hop S) : Type 0 where
  pub idle : new.idle_deadline ≡ old.idle_deadline
  pub answer : new.answer_deadline ≡ old.answer_deadline

-- the connection waits for this since this tick, and nothing is to be written
pub record BeginsToWait {S : Type 0} (tick : ℕ) (phase : Phase) (hop : Hop S) : Type 0 where
  pub phase_is : hop.phase ≡ phase
  pub anew : WaitsAnew tick false hop

-- it is still being opened, or it is open, and the greeting is waited for since this tick
abbrev pub WaitsToConnect : {S : Type 0} → ℕ → Hop S → Hop S → Type 0
WaitsToConnect tick old new = ((new.phase ≡ old.phase) × WaitsOn old new) ⊎ BeginsToWait tick Command new

-- If octets were read, the time without an octet begins anew. The time for the answer goes on.
pub record WaitsAfterRead {S : Type 0} (tick : ℕ) (writes : Bool) (old new : Hop S) : Type 0 where
  pub phase : new.phase ≡ old.phase
  pub answer : new.answer_deadline ≡ old.answer_deadline
  pub idle : (new.idle_deadline ≡ old.idle_deadline) ⊎ IdlesFrom tick writes new
  pub came : unread_of old.channel ≡ [] → unread_of new.channel ≢ [] → IdlesFrom tick writes new

-- Nothing was written, and both times go on; or octets were written, and both begin anew.
abbrev pub WaitsAfterWrite : {D S : Type 0} → ℕ → ℕ → RelayState D → RelayState D → Hop S → Hop S → Type 0
WaitsAfterWrite tick attempt relay_old relay_new old new =
    (new.phase ≡ old.phase)
    × ((WaitsOn old new × (relay_new ≡ relay_old)) ⊎ WaitsAnew tick (writes_to relay_new attempt) new)

-- at this tick the next hop hasn't taken too long yet
abbrev pub IsInTime : {S : Type 0} → ℕ → Hop S → Type 0
IsInTime tick hop = tick < min hop.idle_deadline hop.answer_deadline

-- the connection of this number, if there is one, has octets that its attempt may hear, or is in time
abbrev pub HearsOrIsInTime : {S : Type 0} → ℕ → List (Option (Hop S)) → ℕ → Type 0
HearsOrIsInTime {S} tick hops number =
    (hop : Hop S) → slot_at hops number ≡ Some hop → hop.hears ≡ false → IsInTime tick hop
