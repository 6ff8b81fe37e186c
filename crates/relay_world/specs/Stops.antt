-- Stops of a node, and its opening. A node that stops in a call leaves at most one change undecided; after its next
-- opening the next number says whether the change is there.
use Rattle.std.specs.Prelude.{◌≡◌, ◌≢◌, ◌⊎◌, ℕ, ◌+◌, ◌≤◌, ◌<◌, true, List, [], ◌∷◌, ◌++◌, length, Option, Some, None}
use Rattle.std.specs.Prelude.{slice_get}
use Rattle.relay_disk.specs.Device.{DiskWords}
use Rattle.relay_disk.specs.declared.disks.Disks.{Disks}
use Rattle.relay_disk.specs.Disks.{ImagesWithin, LosesFuseOrNot, calls_left_of, seen_of}
use Rattle.relay_spool.specs.Head.{renewal_calls}
use Rattle.relay_spool.specs.Spool.{CallsUpTo, EveryImageHas, PassesAny}
use Rattle.relay_server.specs.Dialogue.{Said}
use Rattle.relay_book.specs.declared.change.Change.{Change}
use Rattle.relay_book.specs.StandsFor.{StandsFor}
use Rattle.relay_records.specs.declared.noted.Noted.{Noted}
use Rattle.relay_records.specs.declared.fault.Cause.{Cause}
use Rattle.relay_records.specs.ListLaws.{IsNoFaultOfImage}
use Rattle.relay_records.specs.Open.{FailsFor, Opens, RefusesImage}
use Rattle.relay_records.specs.Records.{Compacts, IsStopped, Keeps, Kept}
use Rattle.relay_attempts.specs.Reply.{CutsLoss, CutsReply, Told}
use Rattle.relay_node.specs.Attempts.{Tells}
use Rattle.relay_node.specs.Node.{CutsTalk, IsFused, IsIdle, SeatHasSaid, NodeState}
use Rattle.relay_world.specs.declared.attempt.Attempt.{Attempt}
use Rattle.relay_world.specs.declared.attempt.Fate.{Fate}
use Rattle.relay_world.specs.declared.attempt.Fate.TheVariants.{Dropped, Lost, Replied}
use Rattle.relay_world.specs.declared.link.Link.{Link}
use Rattle.relay_world.specs.declared.link.ServerEnd.{ServerEnd}
use Rattle.relay_world.specs.Bound.{HasSession, HasSlot, IsBound, StandsAt}
use Rattle.relay_world.specs.Ledger.{lines_of}
use Rattle.relay_world.specs.Steps.{AttemptOf, IsPut, IsPutAt, SessionOf, waiting_down, waiting_up}
use Rattle.relay_world.specs.GivingUp.{CutsGivenUp, Reason}
use Rattle.relay_world.specs.World.{Down, FromClient, FromLoss, FromGivingUp, FromReplies, Host, Origin, Undecided, Up}
use Rattle.relay_world.specs.World.{World, link_at}
use Rattle.relay_report.specs.Report.{reporter_of}

-- When a node stops, nothing else of it goes on: its sessions on other links and its other attempts end before, in
-- events of their own that leave the node unchanged, and those links break. So each event concerns one node and at most
-- one link.

-- no session of the node goes on, except on the link of this number
abbrev pub NoSessionBut : {D : Type 0} → World D → ℕ → ℕ → Type 0
NoSessionBut world node number =
    (other : ℕ) (link : Link) (session : ℕ) → other ≢ number → link_at world.links other ≡ Some link
    → HasSession link node session → ⊥

-- no attempt of the node runs, except the one at this index
abbrev pub NoAttemptBut : {D : Type 0} → World D → ℕ → ℕ → Type 0
NoAttemptBut world node place =
    (other : ℕ) (attempt : Attempt) (slot : ℕ) → other ≢ place → slice_get world.attempts other ≡ Some attempt
    → HasSlot attempt node slot → ⊥

-- no session of the node goes on, and no attempt of it runs
abbrev pub NoSession : {D : Type 0} → World D → ℕ → Type 0
NoSession world node =
    (number : ℕ) (link : Link) (session : ℕ) → link_at world.links number ≡ Some link → HasSession link node session → ⊥

abbrev pub NoAttempt : {D : Type 0} → World D → ℕ → Type 0
NoAttempt world node =
    (place : ℕ) (attempt : Attempt) (slot : ℕ) → slice_get world.attempts place ≡ Some attempt
    → HasSlot attempt node slot → ⊥

-- The disks of a stopped node. A further stop leaves no image that this one doesn't leave. A device fault that was set
-- for a later call is gone; if memory ran out, it is as it was. None is set.
pub record IsLeftBy {D : Type 0} (honest : Type 0) (words : DiskWords D) (stopped : Kept D) (disk : Disks D) : Type 0
  where
    pub images : honest → ImagesWithin words stopped.spool.disk disk
    pub fuse : LosesFuseOrNot words stopped.spool.disk disk

-- the disks of a node that stopped while it was adding no change: a further stop leaves whatever changes it kept
abbrev pub LeavesList : {D : Type 0} → Type 0 → DiskWords D → Kept D → Disks D → Type 0
LeavesList honest words before disk =
    (changes : List Change) → Keeps honest words before changes
    → honest → EveryImageHas words disk (λ bodies. StandsFor bodies changes)

-- A device fault that was set for a later call is gone, or nearer by this many calls at most. None is set.
abbrev pub IsNearerOrGone : {D : Type 0} → DiskWords D → ℕ → Disks D → Disks D → Type 0
IsNearerOrGone words most old new = (calls_left_of words new ≡ None) ⊎ CallsUpTo words most old new

-- nothing changes but the nodes
abbrev pub OnlyHostsChange : {D : Type 0} → World D → World D → Type 0
OnlyHostsChange old new =
    (new.links ≡ old.links) × (new.attempts ≡ old.attempts) × (new.ledger ≡ old.ledger) × (new.clock ≡ old.clock)
    × (length new.hosts ≡ length old.hosts)

-- A node has stopped between two calls, or in one that adds no change; it had no session and no running attempt.
pub record HasStopped {D : Type 0} (honest : Type 0) (words : DiskWords D) (old new : World D) (node : ℕ) : Type 0 where
  pub host : Host D
  pub host_at : slice_get old.hosts node ≡ Some host
  pub before : NodeState D
  pub up : host.state ≡ Up before
  pub no_session : NoSession old node
  pub no_attempt : NoAttempt old node
  pub disk : Disks D
  pub left : LeavesList honest words before.records disk
  pub fuse : IsNearerOrGone words (renewal_calls before.records.spool.taken.other) before.records.spool.disk disk
  pub hosts : IsPut old.hosts new.hosts node (record host { state = Down disk None })
  pub rest : OnlyHostsChange old new

-- A node stays up: its disks will fail at a later call, or its spool was compacted. It keeps its changes, and nothing
-- else changes.
pub record StaysUp {D : Type 0} (honest : Type 0) (words : DiskWords D) (old new : World D) (node : ℕ) : Type 0 where
  pub host : Host D
  pub host_at : slice_get old.hosts node ≡ Some host
  pub before : NodeState D
  pub up : host.state ≡ Up before
  pub after : NodeState D
  pub noted : after.records.noted ≡ before.records.noted
  pub keeps : (changes : List Change) → Keeps honest words before.records changes
      → Keeps honest words after.records changes
  pub config : after.config ≡ before.config
  pub seats : after.seats ≡ before.seats
  pub attempts : after.attempts ≡ before.attempts
  pub hosts : IsPut old.hosts new.hosts node (record host { state = Up after })
  pub rest : OnlyHostsChange old new

-- A node stays up with a device fault set for a later call: of its records only the disks have changed.
pub record HasArmed {D : Type 0} (honest : Type 0) (words : DiskWords D) (old new : World D) (node : ℕ) : Type 0 where
  pub stays : StaysUp honest words old new node
  pub fused : IsFused stays.before.records stays.after.records

-- A node stays up with its spool compacted to one body, of all that its queue holds.
pub record HasCompacted {D : Type 0} (honest : Type 0) (words : DiskWords D) (old new : World D) (node : ℕ)
    : Type 0 where
  pub stays : StaysUp honest words old new node
  pub compacts : Compacts honest words stays.before.records stays.after.records
  pub queue : stays.after.records.queue ≡ stays.before.records.queue

-- the link, broken and without a session
abbrev pub cut_off_link : Link → ServerEnd → Link
cut_off_link link end = record link { server = Some (record end { session = None }); broken = true }

-- A node has stopped in a call that heard octets of a link, as many of the unread ones as were carried: its device
-- failed while an accept was added. What the call would have written isn't on the link, which is broken now.
pub record StopsHearing {D : Type 0} (honest : Type 0) (words : DiskWords D) (old new : World D) (number count : ℕ)
    : Type 0 where
  pub of : SessionOf old number
  pub no_session : NoSessionBut old of.end.node number
  pub no_attempt : NoAttempt old of.end.node
  pub stopped : Kept D
  pub failed : IsStopped words 4 of.before.records stopped
  pub cuts : (changes : List Change) (said : Said) → Keeps honest words of.before.records changes
      → SeatHasSaid of.before.config of.before.seats of.session of.end.peer said
      → CutsTalk honest words of.before.config changes of.end.peer old.clock said (waiting_up count of.link)
      of.before.records stopped
  pub noted : Noted
  pub note_is : stopped.noted ≡ Some noted
  pub disk : Disks D
  pub left : IsLeftBy honest words stopped disk
  pub hosts : IsPut old.hosts new.hosts of.end.node
      (record of.host { state = Down disk (Some (record { note = noted; origin = FromClient number })) })
  pub links : IsPutAt old.links new.links number (cut_off_link of.link of.end)
  pub rest : (new.attempts ≡ old.attempts) × (new.ledger ≡ old.ledger) × (new.clock ≡ old.clock)
      × (length new.hosts ≡ length old.hosts)

-- The node of an attempt has stopped while the attempt's outcome was added: the attempt is dropped, and its link is
-- broken.
pub record DropsAtStop {D : Type 0} (honest : Type 0) (words : DiskWords D) (old new : World D) (number : ℕ)
    (of : AttemptOf old number) (stopped : Kept D) (origin : Origin) : Type 0 where
  pub no_session : NoSession old of.attempt.node
  pub no_attempt : NoAttemptBut old of.attempt.node of.place
  pub noted : Noted
  pub note_is : stopped.noted ≡ Some noted
  pub disk : Disks D
  pub left : IsLeftBy honest words stopped disk
  pub hosts : IsPut old.hosts new.hosts of.attempt.node
      (record of.host { state = Down disk (Some (record { note = noted; origin = origin })) })
  pub links : IsPutAt old.links new.links number (record of.link { broken = true })
  pub attempts : IsPut old.attempts new.attempts of.place (record of.attempt { fate = Dropped })
  pub rest : (new.ledger ≡ old.ledger) × (new.clock ≡ old.clock) × (length new.hosts ≡ length old.hosts)

-- A node has stopped in a call of an attempt that read replies, as many of the unread octets as were carried: its
-- device failed while the outcome was added.
pub record StopsReading {D : Type 0} (honest : Type 0) (words : DiskWords D) (old new : World D) (number count : ℕ)
    : Type 0 where
  pub of : AttemptOf old number
  pub stopped : Kept D
  pub failed : IsStopped words 4 of.before.records stopped
  pub cuts : (changes : List Change) (told : Told) → Keeps honest words of.before.records changes
      → Tells of.before.config.host changes of.before.attempts of.slot told
      → CutsReply honest words (reporter_of of.before.config) old.clock changes of.slot told (waiting_down count
      of.link) stopped
  pub drops : DropsAtStop honest words old new number of stopped (FromReplies number of.place of.attempt.message)

-- A node has stopped in the call that reports the loss of an attempt's link: its device failed while the outcome was
-- added.
pub record StopsLosing {D : Type 0} (honest : Type 0) (words : DiskWords D) (old new : World D) (number : ℕ)
    : Type 0 where
  pub of : AttemptOf old number
  pub stopped : Kept D
  pub failed : IsStopped words 4 of.before.records stopped
  pub cuts : (changes : List Change) (told : Told) → Keeps honest words of.before.records changes
      → Tells of.before.config.host changes of.before.attempts of.slot told
      → CutsLoss honest words (reporter_of of.before.config) old.clock changes of.slot told stopped
  pub drops : DropsAtStop honest words old new number of stopped (FromLoss number of.place of.attempt.message)

-- A node has stopped in a call that gave up places of a message without an attempt, as its device failed while their
-- outcome was added.
pub record StopsGivingUp {D : Type 0} (honest : Type 0) (words : DiskWords D) (old new : World D) (reason : Reason)
    (node message : ℕ)
    : Type 0
  where
    pub host : Host D
    pub host_at : slice_get old.hosts node ≡ Some host
    pub before : NodeState D
    pub up : host.state ≡ Up before
    pub no_session : NoSession old node
    pub no_attempt : NoAttempt old node
    pub stopped : Kept D
    pub failed : IsStopped words 4 before.records stopped
    pub cuts : (changes : List Change) → Keeps honest words before.records changes
        → CutsGivenUp honest words (reporter_of before.config) before.config.routes reason message old.clock changes
        before.records stopped
    pub noted : Noted
    pub note_is : stopped.noted ≡ Some noted
    pub disk : Disks D
    pub left : IsLeftBy honest words stopped disk
    pub hosts : IsPut old.hosts new.hosts node
        (record host { state = Down disk (Some (record { note = noted; origin = FromGivingUp message })) })
    pub rest : OnlyHostsChange old new

-- A node that is down stays down, and its disks leave no images that they didn't leave before: they were refused, or
-- have stopped again, as the two definitions below say.
pub record StaysDown {D : Type 0} (honest : Type 0) (words : DiskWords D) (old new : World D) (node : ℕ) : Type 0 where
  pub host : Host D
  pub host_at : slice_get old.hosts node ≡ Some host
  pub disk : Disks D
  pub undecided : Option Undecided
  pub down : host.state ≡ Down disk undecided
  pub again : Disks D
  pub left : honest → ImagesWithin words disk again
  pub hosts : IsPut old.hosts new.hosts node (record host { state = Down again undecided })
  pub rest : OnlyHostsChange old new

-- A node that is down stops again before it is opened. A device fault that was set for a later call is gone; if memory
-- ran out, it is as it was.
pub record StopsAgain {D : Type 0} (honest : Type 0) (words : DiskWords D) (old new : World D) (node : ℕ) : Type 0 where
  pub stays : StaysDown honest words old new node
  pub fuse : LosesFuseOrNot words stays.disk stays.again

-- A node that is down couldn't be opened: its disks were refused for this cause. That is a counted failure of the
-- device, too little memory, or the size of the spool; with an honest disk it is never the octets. A device fault that
-- was set for a later call is nearer by the calls that passed.
pub record IsRefused {D : Type 0} (honest : Type 0) (words : DiskWords D) (old new : World D) (node : ℕ) : Type 0 where
  pub stays : StaysDown honest words old new node
  pub cause : Cause
  pub why : RefusesImage honest (seen_of words stays.disk) cause
  pub failures : FailsFor words stays.disk stays.again cause
  pub calls : PassesAny words stays.disk stays.again
  pub not_octets : honest → IsNoFaultOfImage cause

-- an outcome is found: this many more octets were read on the link, and the attempt at this index has this state
pub record FindsOutcome {D : Type 0} (old new : World D) (number place used : ℕ) (fate : Fate) : Type 0 where
  pub link : Link
  pub link_is : link_at old.links number ≡ Some link
  pub links : IsPutAt old.links new.links number (record link { down_read = link.down_read + used })
  pub attempt : Attempt
  pub attempt_at : slice_get old.attempts place ≡ Some attempt
  pub attempts : IsPut old.attempts new.attempts place (record attempt { fate = fate })

-- an accept is found: this many more octets were read on the link
pub record FindsAccept {D : Type 0} (old new : World D) (number used : ℕ) : Type 0 where
  pub link : Link
  pub link_is : link_at old.links number ≡ Some link
  pub links : IsPutAt old.links new.links number (record link { up_read = link.up_read + used })
  pub attempts : new.attempts ≡ old.attempts

-- A change is found, by what it came from. Its link stays broken, since nothing that the call would have written was
-- sent.
abbrev pub Finds : {D : Type 0} → World D → World D → Noted → Origin → Type 0
Finds old new note (FromClient number) = FindsAccept old new number note.used
Finds old new note (FromReplies number place message) =
    FindsOutcome old new number place note.used (Replied note.number)
Finds old new note (FromLoss number place message) = FindsOutcome old new number place note.used (Lost note.number)
Finds old new note (FromGivingUp message) = (new.links ≡ old.links) × (new.attempts ≡ old.attempts)

-- the node has the undecided change
pub record HasFound {D : Type 0} (old new : World D) (node : ℕ) (host : Host D) (after : NodeState D)
    (undecided : Undecided)
    : Type 0 where
  pub hosts : IsPut old.hosts new.hosts node
      (record host { state = Up after; records = host.records ++ undecided.note.octets ∷ [] })
  pub ledger : new.ledger ≡ old.ledger ++ lines_of node undecided
  pub finds : Finds old new undecided.note undecided.origin

-- the node has the changes from before
pub record HasNotFound {D : Type 0} (old new : World D) (node : ℕ) (host : Host D) (after : NodeState D) : Type 0 where
  pub hosts : IsPut old.hosts new.hosts node (record host { state = Up after })
  pub links : new.links ≡ old.links
  pub attempts : new.attempts ≡ old.attempts
  pub ledger : new.ledger ≡ old.ledger

-- The undecided change is there exactly if the next number is greater than the change's own.
abbrev pub Decides : {D : Type 0} → World D → World D → ℕ → Host D → NodeState D → Option Undecided → Type 0
Decides old new node host after None = HasNotFound old new node host after
Decides old new node host after (Some undecided) =
    ((after.records.queue.next ≤ undecided.note.number) × HasNotFound old new node host after)
    ⊎ ((undecided.note.number < after.records.queue.next) × HasFound old new node host after undecided)

-- A node that was down has been opened. A device fault that was set for a later call of its disks is nearer by the
-- calls of the opening, all of which passed; if there was none, none is set.
pub record HasReopened {D : Type 0} (honest : Type 0) (words : DiskWords D) (old new : World D) (node : ℕ)
    : Type 0 where
  pub host : Host D
  pub host_at : slice_get old.hosts node ≡ Some host
  pub disk : Disks D
  pub undecided : Option Undecided
  pub down : host.state ≡ Down disk undecided
  pub after : NodeState D
  pub opens : Opens honest words disk after.records
  pub idle : IsIdle host.config after
  pub decides : Decides old new node host after undecided
  pub rest : (new.clock ≡ old.clock) × (length new.hosts ≡ length old.hosts)

-- Each of these events preserves the invariant.
abbrev pub StayingUpKeeps : {D : Type 0} → Type 0 → DiskWords D → Type 0
StayingUpKeeps {D} honest words =
    (old new : World D) (lists : List (List Change)) (node : ℕ) → IsBound honest words old lists
    → StaysUp honest words old new node → IsBound honest words new lists

abbrev pub StoppingKeeps : {D : Type 0} → Type 0 → DiskWords D → Type 0
StoppingKeeps {D} honest words =
    (old new : World D) (lists : List (List Change)) (node : ℕ) → IsBound honest words old lists
    → HasStopped honest words old new node → IsBound honest words new lists

abbrev pub StoppingHearingKeeps : {D : Type 0} → Type 0 → DiskWords D → Type 0
StoppingHearingKeeps {D} honest words =
    (old new : World D) (lists : List (List Change)) (number count : ℕ) → IsBound honest words old lists
    → StopsHearing honest words old new number count → IsBound honest words new lists

abbrev pub StoppingReadingKeeps : {D : Type 0} → Type 0 → DiskWords D → Type 0
StoppingReadingKeeps {D} honest words =
    (old new : World D) (lists : List (List Change)) (number count : ℕ) → IsBound honest words old lists
    → StopsReading honest words old new number count → IsBound honest words new lists

abbrev pub StoppingLosingKeeps : {D : Type 0} → Type 0 → DiskWords D → Type 0
StoppingLosingKeeps {D} honest words =
    (old new : World D) (lists : List (List Change)) (number : ℕ) → IsBound honest words old lists
    → StopsLosing honest words old new number → IsBound honest words new lists

abbrev pub StoppingGivingUpKeeps : {D : Type 0} → Type 0 → DiskWords D → Type 0
StoppingGivingUpKeeps {D} honest words =
    (old new : World D) (lists : List (List Change)) (reason : Reason) (node message : ℕ)
    → IsBound honest words old lists → StopsGivingUp honest words old new reason node message
    → IsBound honest words new lists

abbrev pub StayingDownKeeps : {D : Type 0} → Type 0 → DiskWords D → Type 0
StayingDownKeeps {D} honest words =
    (old new : World D) (lists : List (List Change)) (node : ℕ) → IsBound honest words old lists
    → StaysDown honest words old new node → IsBound honest words new lists

abbrev pub ReopeningKeeps : {D : Type 0} → Type 0 → DiskWords D → Type 0
ReopeningKeeps {D} honest words =
    (old new : World D) (lists : List (List Change)) (node : ℕ) → IsBound honest words old lists
    → HasReopened honest words old new node
    → (later : List (List Change)) × IsBound honest words new later

-- A node that is down can be opened, unless the device fails, memory runs out or the spool is too large. The octets are
-- never the cause.
abbrev pub DownIsNotRefused : {D : Type 0} → Type 0 → DiskWords D → Type 0
DownIsNotRefused {D} honest words =
    (world : World D) (lists : List (List Change)) (node : ℕ) (host : Host D) (changes : List Change) (disk : Disks D)
    (undecided : Option Undecided) (cause : Cause) → IsBound honest words world lists
    → StandsAt world lists node host changes
    → host.state ≡ Down disk undecided → RefusesImage honest (seen_of words disk) cause → IsNoFaultOfImage cause
