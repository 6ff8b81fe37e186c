-- The results for tasks: connections that begin for them, and messages that are lost or given up without one.
use Rattle.std.specs.Prelude.{◌≡◌, ◌⊎◌, ◌<◌, ◌≤◌, ◌+◌, ◌-◌, ◌^◌, ℕ, min, Bool, true, false, List, [], ◌∷◌, Option}
use Rattle.std.specs.Prelude.{None, Some, length}
use Rattle.std.specs.declared.net.socket_addr.SocketAddrV4.{SocketAddrV4}
use Rattle.relay_disk.specs.Device.{DiskWords}
use Rattle.relay_routes.specs.Routes.{place_of}
use Rattle.relay_records.specs.declared.fault.NodeFault.TheVariants.{NotDue, Unknown}
use Rattle.relay_attempts.specs.Outcomes.{EndsUnroutable, RefusesToGiveUp}
use Rattle.relay_control.specs.Held.{holds}
use Rattle.relay_control.specs.declared.held.Held.{Held}
use Rattle.relay_loop.specs.Relay.{RelayState}
use Rattle.relay_connections.specs.declared.channel.Channel.{Channel}
use Rattle.relay_connections.specs.declared.clocks.Now.{Now}
use Rattle.relay_limits.specs.declared.pace.Pace.{Pace}
use Rattle.relay_slots.specs.Slots.{IsFull, IsLeastFree, slot_at}
use Rattle.relay_slots.specs.declared.slots.TheConstants.{SLOT_COUNT}
use Rattle.relay_next_hops.specs.Counts.{unanswered_of}
use Rattle.relay_next_hops.specs.Deliveries.{PutsFor}
use Rattle.relay_next_hops.specs.Lanes.{IsPutBack, KeepsCounts, KeepsPlaces, tasks_at}
use Rattle.relay_next_hops.specs.Losses.{EndsLost, TakesNote}
use Rattle.relay_lanes.specs.Paces.{MayBeginAt, RunsOneMore, has_answered_at}
use Rattle.relay_next_hops.specs.declared.delivery.Aim.{Aim}
use Rattle.relay_next_hops.specs.declared.delivery.Delivery.{Delivery}
use Rattle.relay_next_hops.specs.declared.hop.Hop.{Hop}
use Rattle.relay_lanes.specs.declared.lane.Task.{Task}
use Rattle.relay_next_hops.specs.declared.lanes.Lanes.{Lanes}
use Rattle.relay_next_hops.specs.declared.starting.TheConstants.{MOST_UNANSWERED}
use Rattle.relay_next_hops.specs.declared.starting.Begun.{Begun}
use Rattle.relay_next_hops.specs.declared.starting.Begun.TheVariants.{AllDone, Crowded, HasMore, Full, Wanting}
use Rattle.relay_next_hops.specs.declared.starting.Step.{Step}
use Rattle.relay_next_hops.specs.declared.starting.Step.TheVariants.{Left, Back, Over, NoRoom, NoSlot}
use Rattle.relay_next_hops.specs.declared.starting.Tried.{Tried}
use Rattle.relay_next_hops.specs.declared.starting.Tried.TheVariants.{Connects, Wants, Fails, HasNoPlace}
use Rattle.relay_report.specs.Report.{reporter_of}

-- the delivery of a task without an attempt
pub record IsOfTask (task : Task) (delivery : Delivery) : Type 0 where
  pub message : delivery.message ≡ task.message
  pub name : delivery.name ≡ task.hop
  pub none : delivery.attempt ≡ None

-- A connection for the task is under this number; it was opened to the address that the routes give for its next hop.
pub record ConnectsFor {D S : Type 0} (Opened : SocketAddrV4 → Channel S → Type 0) (lane number : ℕ) (task : Task)
    (hops_old hops_new : List (Option (Hop S))) (lanes_old lanes_new : Lanes) (relay : RelayState D)
    : Type 0 where
  pub aim : Aim
  pub its_lane : aim.lane ≡ lane
  pub its_place : place_of relay.node.config.routes.routes task.hop ≡ Some aim.at
  pub early : aim.early ≡ task.early
  pub puts : PutsFor Opened aim task.message task.hop number hops_old hops_new
  pub runs : RunsOneMore lane lanes_old.paces lanes_new.paces
  pub places : KeepsPlaces lanes_old lanes_new

-- the task has ended as lost, as a delivery of its lane
pub record FailsFor {D : Type 0} (words : DiskWords D) (now : Now) (lane : ℕ) (task : Task) (paces : List Pace)
    (old new : RelayState D)
    : Type 0 where
  pub delivery : Delivery
  pub its_lane : delivery.aim.lane ≡ lane
  pub of_task : IsOfTask task delivery
  pub lost : EndsLost words now delivery paces old new

-- the result for a task of a lane for which a connection was to begin under a number
abbrev pub IsTried : {D S : Type 0} → DiskWords D → (SocketAddrV4 → Channel S → Type 0) → Now → ℕ → ℕ → Task
    → List (Option (Hop S)) → List (Option (Hop S)) → Lanes → Lanes → RelayState D → RelayState D → Tried → Type 0
IsTried words Opened now lane number task hops_old hops_new lanes_old lanes_new old new Connects =
    ConnectsFor Opened lane number task hops_old hops_new lanes_old lanes_new old × (new ≡ old)
IsTried words Opened now lane number task hops_old hops_new lanes_old lanes_new old new Wants =
    IsPutBack lane task lanes_old lanes_new × KeepsCounts lanes_old lanes_new × (hops_new ≡ hops_old) × (new ≡ old)
IsTried words Opened now lane number task hops_old hops_new lanes_old lanes_new old new Fails =
    FailsFor words now lane task lanes_old.paces old new × KeepsCounts lanes_old lanes_new × (hops_new ≡ hops_old)
IsTried words Opened now lane number task hops_old hops_new lanes_old lanes_new old new HasNoPlace =
    (place_of old.node.config.routes.routes task.hop ≡ None) × (lanes_new ≡ lanes_old) × (hops_new ≡ hops_old)
    × (new ≡ old)

-- the held places of the message without a hop have ended, and the note of that was taken
pub record GivesUp {D : Type 0} (words : DiskWords D) (at message : ℕ) (old new : RelayState D) : Type 0 where
  pub between : RelayState D
  pub added : ℕ
  pub ends : EndsUnroutable words (reporter_of old.node.config) old.node.config.routes message at old.node.records
      between.node.records added
  pub noted : TakesNote between new

-- The message was given up. If not, giving up isn't due any more, or all due mail is to be listed again.
abbrev pub IsGivenUp : {D : Type 0} → DiskWords D → ℕ → ℕ → RelayState D → RelayState D → Lanes → Bool → Type 0
IsGivenUp words at message old new lanes true = GivesUp words at message old new
IsGivenUp words at message old new lanes false =
    RefusesToGiveUp words (reporter_of old.node.config) old.node.config.routes message at old.node.records
    new.node.records Unknown
    ⊎ RefusesToGiveUp words (reporter_of old.node.config) old.node.config.routes message at old.node.records
    new.node.records NotDue
    ⊎ (lanes.is_stale ≡ true)

-- No more may begin for a lane: its pace lets none begin, or no task is left, or its next hop hasn't answered yet and
-- no more connections to such next hops may begin.
abbrev pub IsDone : {S : Type 0} → ℕ → List (Option (Hop S)) → Lanes → ℕ → Type 0
IsDone tick hops lanes lane = MayBeginAt lanes.most tick lanes.paces lane
    → (tasks_at lanes lane ≡ [])
    ⊎ ((has_answered_at lanes.paces lane ≡ false) × (MOST_UNANSWERED ≤ unanswered_of hops lanes.paces))

-- As many tasks of a lane have left it as may at a turn. One that is put back for lack of a descriptor takes one of
-- those that were kept.
abbrev pub IsTriedOut : ℕ → Lanes → Lanes → ℕ → Type 0
IsTriedOut spares old new lane = length (tasks_at new lane) + SLOT_COUNT ≤ length (tasks_at old lane) + spares

-- profile: no connection begins for one second after the system had no descriptor or no memory for one
abbrev pub paused_after : Begun → ℕ → ℕ → ℕ
paused_after AllDone tick until = until
paused_after Crowded tick until = until
paused_after HasMore tick until = until
paused_after Full tick until = until
paused_after Wanting tick until = min (tick + 1000) (2 ^ 64 - 1)

-- the pause ends when it did, or one second from a tick
abbrev pub PausesAtMost : ℕ → ℕ → ℕ → Type 0
PausesAtMost tick old new = (new ≡ old) ⊎ (new ≡ min (tick + 1000) (2 ^ 64 - 1))

-- a task is put back if the system has no descriptor for its connection
abbrev pub back_of : Tried → ℕ
back_of Connects = 0
back_of Wants = 1
back_of Fails = 0
back_of HasNoPlace = 0

-- the result for the next task of a lane, if it was tried so
abbrev pub step_after : Tried → Step
step_after Connects = Left
step_after Wants = Back
step_after Fails = Left
step_after HasNoPlace = Left

-- The next task of a lane was tried, because one more may begin, its next hop has answered or there is room among those
-- that haven't, and no postmaster holds it.
pub record TriesNext {D S : Type 0} (words : DiskWords D) (Opened : SocketAddrV4 → Channel S → Type 0) (now : Now)
    (lane : ℕ) (hops_old hops_new : List (Option (Hop S))) (lanes_old lanes_new : Lanes) (old new : RelayState D)
    (tried : Tried)
    : Type 0 where
  pub number : ℕ
  pub task : Task
  pub between : Lanes
  pub may : MayBeginAt lanes_old.most now.tick lanes_old.paces lane
  pub room : has_answered_at lanes_old.paces lane ≡ false → unanswered_of hops_old lanes_old.paces < MOST_UNANSWERED
  pub free : IsLeastFree hops_old number
  pub first : tasks_at lanes_old lane ≡ task ∷ tasks_at between lane
  pub runs : between.paces ≡ lanes_old.paces
  pub free_to_go : holds task.hop task.message lanes_old.held ≡ false
  pub comes : IsTried words Opened now lane number task hops_old hops_new between lanes_new old new tried

-- The next task of a lane has left it without a connection, because a postmaster holds it.
pub record LeavesKept {D S : Type 0} (lane : ℕ) (hops_old hops_new : List (Option (Hop S)))
    (lanes_old lanes_new : Lanes) (old new : RelayState D)
    : Type 0 where
  pub task : Task
  pub kept : holds task.hop task.message lanes_old.held ≡ true
  pub first : tasks_at lanes_old lane ≡ task ∷ tasks_at lanes_new lane
  pub paces : lanes_new.paces ≡ lanes_old.paces
  pub hops : hops_new ≡ hops_old
  pub relay : new ≡ old

-- each connection that there wasn't before is for mail that no postmaster holds
abbrev pub OpensUnheld : {S : Type 0} → Held → List (Option (Hop S)) → List (Option (Hop S)) → Type 0
OpensUnheld {S} held old new = (number : ℕ) (hop : Hop S) → slot_at new number ≡ Some hop
    → (slot_at old number ≡ Some hop) ⊎ (holds hop.name hop.message held ≡ false)

-- the result for the next task of a lane
abbrev pub IsStep : {D S : Type 0} → DiskWords D → (SocketAddrV4 → Channel S → Type 0) → Now → ℕ
    → List (Option (Hop S)) → List (Option (Hop S)) → Lanes → Lanes → RelayState D → RelayState D → Step → Type 0
IsStep words Opened now lane hops_old hops_new lanes_old lanes_new old new Left =
    (((tried : Tried) × TriesNext words Opened now lane hops_old hops_new lanes_old lanes_new old new tried)
    ⊎ LeavesKept lane hops_old hops_new lanes_old lanes_new old new)
    × (length (tasks_at lanes_new lane) + 1 ≤ length (tasks_at lanes_old lane))
IsStep words Opened now lane hops_old hops_new lanes_old lanes_new old new Back =
    TriesNext words Opened now lane hops_old hops_new lanes_old lanes_new old new Wants
    × (length (tasks_at lanes_new lane) ≤ length (tasks_at lanes_old lane))
IsStep words Opened now lane hops_old hops_new lanes_old lanes_new old new Over =
    IsDone now.tick hops_new lanes_new lane
IsStep words Opened now lane hops_old hops_new lanes_old lanes_new old new NoRoom =
    IsDone now.tick hops_new lanes_new lane
IsStep words Opened now lane hops_old hops_new lanes_old lanes_new old new NoSlot = IsFull hops_new

-- If a step is the last of a lane, this is how far the lane has come. A task that was put back uses up one of the spare
-- descriptors, whose numbers before and after are these.
abbrev pub IsEndOf : Step → ℕ → ℕ → Option Begun → Type 0
IsEndOf Left old new begun = (begun ≡ None) × (new ≡ old)
IsEndOf Back old new begun =
    ((begun ≡ None) × (new + 1 ≡ old)) ⊎ ((begun ≡ Some Wanting) × (old ≡ 0) × (new ≡ 0))
IsEndOf Over old new begun = (begun ≡ Some AllDone) × (new ≡ old)
IsEndOf NoRoom old new begun = (begun ≡ Some Crowded) × (new ≡ old)
IsEndOf NoSlot old new begun = (begun ≡ Some Full) × (new ≡ old)

-- no lane can go on, or another can
abbrev pub IsStoppedBy : Begun → Bool → Type 0
IsStoppedBy AllDone stops = stops ≡ false
IsStoppedBy Crowded stops = stops ≡ false
IsStoppedBy HasMore stops = stops ≡ false
IsStoppedBy Full stops = stops ≡ true
IsStoppedBy Wanting stops = stops ≡ true

-- how far a lane has come, with these numbers of spare descriptors before and after
abbrev pub IsBegun : {S : Type 0} → ℕ → ℕ → Lanes → List (Option (Hop S)) → Lanes → ℕ → ℕ → Begun → Type 0
IsBegun tick kept old hops new left lane AllDone = IsDone tick hops new lane
IsBegun tick kept old hops new left lane Crowded = IsDone tick hops new lane
IsBegun tick kept old hops new left lane HasMore = IsTriedOut kept old new lane
IsBegun tick kept old hops new left lane Full = IsFull hops
IsBegun tick kept old hops new left lane Wanting = left ≡ 0
