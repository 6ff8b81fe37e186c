-- A crash of a node in a call, as one step: the node is down, its sessions are gone, its attempts dropped, and all its
-- links broken. The nodes at the other ends notice later, in events of their own.
use Rattle.std.specs.Prelude.{◌≡◌, ℕ, nat_eq, Bool, true, false, List, length, map, Option, None, Some, if◌then◌else◌}
use Rattle.std.specs.Prelude.{slice_get}
use Rattle.relay_disk.specs.Device.{DiskWords}
use Rattle.relay_disk.specs.declared.disks.Disks.{Disks}
use Rattle.relay_spool.specs.Head.{renewal_calls}
use Rattle.relay_server.specs.Dialogue.{Said}
use Rattle.relay_book.specs.declared.change.Change.{Change}
use Rattle.relay_records.specs.declared.noted.Noted.{Noted}
use Rattle.relay_records.specs.Records.{Halted, IsStopped, Keeps, Kept}
use Rattle.relay_attempts.specs.Reply.{CutsLoss, CutsReply, Told}
use Rattle.relay_node.specs.Attempts.{Tells}
use Rattle.relay_node.specs.Node.{CutsTalk, SeatHasSaid, NodeState}
use Rattle.relay_world.specs.declared.attempt.Attempt.{Attempt}
use Rattle.relay_world.specs.declared.link.Link.{Link}
use Rattle.relay_world.specs.declared.link.ServerEnd.{ServerEnd}
use Rattle.relay_world.specs.Bound.{IsBound}
use Rattle.relay_world.specs.HangUp.{broken_link, hung_up_attempt, hung_up_link}
use Rattle.relay_world.specs.Steps.{AttemptOf, IsPut, SessionOf, waiting_down, waiting_up}
use Rattle.relay_world.specs.Stops.{IsLeftBy}
use Rattle.relay_world.specs.GivingUp.{CutsGivenUp, Reason}
use Rattle.relay_world.specs.World.{Down, FromClient, FromLoss, FromGivingUp, FromReplies, Host, Origin, Undecided, Up}
use Rattle.relay_world.specs.World.{World}
use Rattle.relay_report.specs.Report.{reporter_of}

-- whether a server end belongs to this node
abbrev pub serves_for : ℕ → Option ServerEnd → Bool
serves_for node None = false
serves_for node (Some end) = nat_eq end.node node

-- whether an attempt belongs to this node
abbrev pub tries_for : ℕ → Option Attempt → Bool
tries_for node None = false
tries_for node (Some attempt) = nat_eq attempt.node node

-- whether a client end is an attempt of this node
abbrev pub is_tried_for : ℕ → List Attempt → Option ℕ → Bool
is_tried_for node attempts None = false
is_tried_for node attempts (Some place) = tries_for node (slice_get attempts place)

-- whether an end of the link belongs to this node
abbrev pub has_end_of : ℕ → List Attempt → Link → Bool
has_end_of node attempts link = if serves_for node link.server then true else is_tried_for node attempts link.client

-- a link after its node's crash: broken, without a session at that node
abbrev pub let_go_link : ℕ → List Attempt → Link → Link
let_go_link node attempts link = if has_end_of node attempts link then broken_link (hung_up_link node link) else link

abbrev pub let_go : {D : Type 0} → ℕ → World D → World D
let_go node world = record world {
  links = map (let_go_link node world.attempts) world.links;
  attempts = map (hung_up_attempt node) world.attempts;
}

-- A node has gone down, with these disks and this undecided change, and has let go of its ends of links.
pub record GoesDown {D : Type 0} (old new : World D) (node : ℕ) (host : Host D) (disk : Disks D)
    (undecided : Option Undecided) : Type 0
  where
    pub hosts : List (Host D)
    pub put : IsPut old.hosts hosts node (record host { state = Down disk undecided })
    pub as_many : length hosts ≡ length old.hosts
    pub new_is : new ≡ record (let_go node old) { hosts = hosts }

-- A node crashed between two calls: no change is undecided.
pub record CrashesAtRest {D : Type 0} (honest : Type 0) (words : DiskWords D) (old new : World D) (node : ℕ)
    : Type 0 where
  pub host : Host D
  pub host_at : slice_get old.hosts node ≡ Some host
  pub before : NodeState D
  pub up : host.state ≡ Up before
  pub disk : Disks D
  pub left : IsLeftBy honest words before.records disk
  pub down : GoesDown old new node host disk None

-- A node crashed in a call that adds no change: its device failed while its spool was compacted.
pub record CrashesCompacting {D : Type 0} (honest : Type 0) (words : DiskWords D) (old new : World D) (node : ℕ)
    : Type 0 where
  pub host : Host D
  pub host_at : slice_get old.hosts node ≡ Some host
  pub before : NodeState D
  pub up : host.state ≡ Up before
  pub stopped : Kept D
  pub failed : IsStopped words (renewal_calls before.records.spool.taken.other) before.records stopped
  pub halts : (changes : List Change) → Keeps honest words before.records changes
      → Halted honest words stopped changes None
  pub disk : Disks D
  pub left : IsLeftBy honest words stopped disk
  pub down : GoesDown old new node host disk None

-- A node crashed in a call that gave up places of a message without an attempt: its device failed while their outcome
-- was added.
pub record CrashesGivingUp {D : Type 0} (honest : Type 0) (words : DiskWords D) (old new : World D) (reason : Reason)
    (node message : ℕ)
    : Type 0
  where
    pub host : Host D
    pub host_at : slice_get old.hosts node ≡ Some host
    pub before : NodeState D
    pub up : host.state ≡ Up before
    pub stopped : Kept D
    pub failed : IsStopped words 4 before.records stopped
    pub cuts : (changes : List Change) → Keeps honest words before.records changes
        → CutsGivenUp honest words (reporter_of before.config) before.config.routes reason message old.clock changes
        before.records stopped
    pub noted : Noted
    pub note_is : stopped.noted ≡ Some noted
    pub disk : Disks D
    pub left : IsLeftBy honest words stopped disk
    pub down : GoesDown old new node host disk (Some (record { note = noted; origin = FromGivingUp message }))

-- A node crashed in a call that heard octets of a link: its device failed while an accept was added.
pub record CrashesHearing {D : Type 0} (honest : Type 0) (words : DiskWords D) (old new : World D) (number count : ℕ)
    : Type 0 where
  pub of : SessionOf old number
  pub stopped : Kept D
  pub failed : IsStopped words 4 of.before.records stopped
  pub cuts : (changes : List Change) (said : Said) → Keeps honest words of.before.records changes
      → SeatHasSaid of.before.config of.before.seats of.session of.end.peer said
      → CutsTalk honest words of.before.config changes of.end.peer old.clock said (waiting_up count of.link)
      of.before.records stopped
  pub noted : Noted
  pub note_is : stopped.noted ≡ Some noted
  pub disk : Disks D
  pub left : IsLeftBy honest words stopped disk
  pub down : GoesDown old new of.end.node of.host disk (Some (record { note = noted; origin = FromClient number }))

-- A node crashed in a call of an attempt, while its outcome was added.
pub record CrashesEnding {D : Type 0} (honest : Type 0) (words : DiskWords D) (old new : World D) (number : ℕ)
    (of : AttemptOf old number)
    (stopped : Kept D) (origin : Origin) : Type 0 where
  pub noted : Noted
  pub note_is : stopped.noted ≡ Some noted
  pub disk : Disks D
  pub left : IsLeftBy honest words stopped disk
  pub down : GoesDown old new of.attempt.node of.host disk (Some (record { note = noted; origin = origin }))

-- the attempt read replies, as many of the unread octets as were carried, and the device failed
pub record CrashesReading {D : Type 0} (honest : Type 0) (words : DiskWords D) (old new : World D) (number count : ℕ)
    : Type 0 where
  pub of : AttemptOf old number
  pub stopped : Kept D
  pub failed : IsStopped words 4 of.before.records stopped
  pub cuts : (changes : List Change) (told : Told) → Keeps honest words of.before.records changes
      → Tells of.before.config.host changes of.before.attempts of.slot told
      → CutsReply honest words (reporter_of of.before.config) old.clock changes of.slot told (waiting_down count
      of.link) stopped
  pub crash : CrashesEnding honest words old new number of stopped (FromReplies number of.place of.attempt.message)

-- the attempt's link was lost, and the device failed
pub record CrashesLosing {D : Type 0} (honest : Type 0) (words : DiskWords D) (old new : World D) (number : ℕ)
    : Type 0 where
  pub of : AttemptOf old number
  pub stopped : Kept D
  pub failed : IsStopped words 4 of.before.records stopped
  pub cuts : (changes : List Change) (told : Told) → Keeps honest words of.before.records changes
      → Tells of.before.config.host changes of.before.attempts of.slot told
      → CutsLoss honest words (reporter_of of.before.config) old.clock changes of.slot told stopped
  pub crash : CrashesEnding honest words old new number of stopped (FromLoss number of.place of.attempt.message)

abbrev pub CrashingInHearingKeeps : {D : Type 0} → Type 0 → DiskWords D → Type 0
CrashingInHearingKeeps {D} honest words =
    (old new : World D) (lists : List (List Change)) (number count : ℕ) → IsBound honest words old lists
    → CrashesHearing honest words old new number count → IsBound honest words new lists

abbrev pub CrashingInReadingKeeps : {D : Type 0} → Type 0 → DiskWords D → Type 0
CrashingInReadingKeeps {D} honest words =
    (old new : World D) (lists : List (List Change)) (number count : ℕ) → IsBound honest words old lists
    → CrashesReading honest words old new number count → IsBound honest words new lists

abbrev pub CrashingInLosingKeeps : {D : Type 0} → Type 0 → DiskWords D → Type 0
CrashingInLosingKeeps {D} honest words =
    (old new : World D) (lists : List (List Change)) (number : ℕ) → IsBound honest words old lists
    → CrashesLosing honest words old new number → IsBound honest words new lists
