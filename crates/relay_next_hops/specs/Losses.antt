-- How the loss of a connection to a next hop is recorded at the node.
use Rattle.std.specs.Prelude.{◌≡◌, ◌⊎◌, ℕ, Bool, true, false, List, Option, None, Some, Err}
use Rattle.relay_disk.specs.Device.{DiskWords}
use Rattle.relay_slots.specs.Slots.{slot_at}
use Rattle.relay_records.specs.declared.fault.NodeFault.{NodeFault}
use Rattle.relay_attempts.specs.Attempts.{RefusesToStart, Starts}
use Rattle.relay_attempts.specs.Reply.{EndsBy}
use Rattle.relay_attempts.specs.declared.start.Started.{Started}
use Rattle.relay_loop.specs.Hops.{RefusesHop}
use Rattle.relay_loop.specs.Relay.{RelayState}
use Rattle.relay_limits.specs.declared.pace.Pace.{Pace}
use Rattle.relay_connections.specs.declared.clocks.Now.{Now}
use Rattle.relay_lanes.specs.Paces.{IsHeldAt}
use Rattle.relay_next_hops.specs.Hearing.{hearing_at}
use Rattle.relay_next_hops.specs.declared.delivery.Delivery.{Delivery}
use Rattle.relay_next_hops.specs.declared.hop.Hop.{Hop}
use Rattle.relay_report.specs.Report.{reporter_of}

-- Below: a call at a time, of a relay on a disk with these words.
module _ {D : Type 0} (words : DiskWords D) (at : ℕ) (old new : RelayState D) where
  -- the attempt of this number has ended, and its outcome was recorded; its connection is gone
  pub record LosesAttempt (attempt : ℕ) : Type 0 where
    pub change : ℕ
    pub ends : EndsBy words (reporter_of old.node.config) at attempt old.node.attempts new.node.attempts
        old.node.records new.node.records change
    pub gone : slot_at new.hops attempt ≡ None

  -- The loss of the attempt of this number was refused: its connection is gone.
  pub record RefusesLoss (attempt : ℕ) : Type 0 where
    pub fault : NodeFault
    pub refused : RefusesHop {T = ℕ} words attempt old new (Err fault)
    pub gone : slot_at new.hops attempt ≡ None

-- Below: such a call, for a message and a next hop.
module _ {D : Type 0} (words : DiskWords D) (at message : ℕ) (hop : List ℕ) (old new : RelayState D) where
  -- an attempt has begun for them, and its loss was recorded at once
  pub record StartsAndLoses : Type 0 where
    pub started : Started
    pub between : RelayState D
    pub starts : Starts old.node.config.host old.node.config.routes message hop at old.node.records.queue
        old.node.attempts between.node.attempts started
    pub records : between.node.records ≡ old.node.records
    pub loses : LosesAttempt words at between new started.attempt

  -- no attempt may begin for them, and nothing changes
  pub record StartsNone : Type 0 where
    pub fault : NodeFault
    pub refused : RefusesToStart old.node.config.host old.node.config.routes message hop at old.node.records
        old.node.attempts fault
    pub same : new ≡ old

  -- an attempt has begun, and its loss was refused
  pub record StartsAndRefuses : Type 0 where
    pub started : Started
    pub between : RelayState D
    pub starts : Starts old.node.config.host old.node.config.routes message hop at old.node.records.queue
        old.node.attempts between.node.attempts started
    pub refuses : RefusesLoss words at between new started.attempt

-- no attempt may begin, or the node refuses its loss
abbrev pub StartsNothing
    : {D : Type 0} → DiskWords D → ℕ → ℕ → List ℕ → RelayState D → RelayState D → Type 0
StartsNothing words at message hop old new =
    StartsNone words at message hop old new ⊎ StartsAndRefuses words at message hop old new

-- the loss of a delivery is recorded: that of its attempt, or, if it has none, that of one that begins for it
abbrev pub Loses : {D : Type 0} → DiskWords D → ℕ → Delivery → RelayState D → RelayState D → Option ℕ → Type 0
Loses words at delivery old new (Some attempt) = LosesAttempt words at old new attempt
Loses words at delivery old new None = StartsAndLoses words at delivery.message delivery.name old new

-- the loss isn't recorded: no attempt may begin, or the node refuses the loss
abbrev pub LosesNot : {D : Type 0} → DiskWords D → ℕ → Delivery → RelayState D → RelayState D → Option ℕ → Type 0
LosesNot words at delivery old new (Some attempt) = RefusesLoss words at old new attempt
LosesNot words at delivery old new None = StartsNothing words at delivery.message delivery.name old new

-- the note of the last change was taken, and nothing else changes
abbrev pub TakesNote : {D : Type 0} → RelayState D → RelayState D → Type 0
TakesNote old new =
    (new.node ≡ record old.node { records = record old.node.records { noted = None } })
    × (new.clients ≡ old.clients) × (new.hops ≡ old.hops)

-- the loss of a delivery is recorded, and its note was taken
pub record IsRecorded {D : Type 0} (words : DiskWords D) (at : ℕ) (delivery : Delivery) (old new : RelayState D)
    : Type 0 where
  pub between : RelayState D
  pub loses : Loses words at delivery old between delivery.attempt
  pub noted : TakesNote between new

-- the loss is recorded, or the node refuses it
abbrev pub IsRecordedOrRefused : {D : Type 0} → DiskWords D → ℕ → Delivery → RelayState D → RelayState D → Type 0
IsRecordedOrRefused words at delivery old new =
    IsRecorded words at delivery old new ⊎ LosesNot words at delivery old new delivery.attempt

-- the loss of a delivery is recorded, or it isn't: the node refuses it
abbrev pub IsRecordedIf : {D : Type 0} → DiskWords D → ℕ → Delivery → RelayState D → RelayState D → Bool → Type 0
IsRecordedIf words at delivery old new true = IsRecorded words at delivery old new
IsRecordedIf words at delivery old new false = LosesNot words at delivery old new delivery.attempt

-- the loss of the running attempt of this number is recorded, and its note was taken; or the node refuses it
abbrev pub LosesRunning : {D : Type 0} → DiskWords D → ℕ → ℕ → RelayState D → RelayState D → Type 0
LosesRunning {D} words at attempt old new =
    ((between : RelayState D) × LosesAttempt words at old between attempt × TakesNote between new)
    ⊎ RefusesLoss words at old new attempt

-- The attempt of a connection that had octets to hear is lost: that is recorded, or refused. Or there is none, and
-- nothing changes.
abbrev pub LosesOne
    : {D S : Type 0} → DiskWords D → ℕ → List (Option (Hop S)) → RelayState D → RelayState D → Bool → Type 0
LosesOne words at hops old new true =
    (number : ℕ) × (attempt : ℕ) × (hearing_at hops number ≡ Some attempt) × LosesRunning words at attempt old new
LosesOne words at hops old new false = new ≡ old

-- A delivery has ended as lost: that is recorded, or refused. If its attempt hasn't begun, and its next hop is on hold,
-- it stays due instead, and nothing changes.
abbrev pub EndsLost : {D : Type 0} → DiskWords D → Now → Delivery → List Pace → RelayState D → RelayState D → Type 0
EndsLost words now delivery paces old new =
    ((delivery.attempt ≡ None) × IsHeldAt now.tick paces delivery.aim.lane × (new ≡ old))
    ⊎ IsRecordedOrRefused words now.moment delivery old new

-- The same; or the attempt hasn't begun, its next hop has other connections, and nothing changes.
abbrev pub EndsLostOrTurnedAway
    : {D : Type 0} → DiskWords D → Now → Delivery → Bool → List Pace → RelayState D → RelayState D → Type 0
EndsLostOrTurnedAway words now delivery shared paces old new =
    ((delivery.attempt ≡ None) × (shared ≡ true) × (new ≡ old)) ⊎ EndsLost words now delivery paces old new
