-- What one host begins of itself: sessions, attempts, and the end of places without an attempt, since they have no hop
-- or since the postmaster withdraws them.
use Rattle.std.specs.Prelude.{◌≡◌, ◌⊎◌, ◌↔◌, ℕ, List, [], Option, Some, Result, Ok, Err}
use Rattle.relay_disk.specs.Device.{DiskWords}
use Rattle.relay_slots.specs.Slots.{IsFull}
use Rattle.relay_book.specs.declared.change.Change.{Change}
use Rattle.relay_book.specs.Queue.{held_of}
use Rattle.relay_records.specs.declared.fault.NodeFault.{NodeFault}
use Rattle.relay_records.specs.declared.fault.NodeFault.TheVariants as node_fault
use Rattle.relay_records.specs.declared.noted.Noted.{Noted}
use Rattle.relay_records.specs.Records.{IsStopped, Keeps}
use Rattle.relay_attempts.specs.declared.runs.Run.{Run}
use Rattle.relay_attempts.specs.declared.start.Started.{Started}
use Rattle.relay_attempts.specs.declared.work.Work.{Work}
use Rattle.relay_attempts.specs.Attempts.{RefusesToStart}
use Rattle.relay_attempts.specs.Outcomes.{HasNoRoomFor, RefusesToGiveUp}
use Rattle.relay_attempts.specs.Withdrawals.{RefusesToWithdraw}
use Rattle.relay_attempts.specs.Work.{works_of}
use Rattle.relay_node.specs.declared.node.Connected.{Connected}
use Rattle.relay_node.specs.Attempts.{Begins}
use Rattle.relay_node.specs.Node.{Connects, NodeState}
use Rattle.relay_world.specs.GivingUp.{AddsGivenUp, AreFree, CutsGivenUp, NoHop, Postmaster, Reason}
use Rattle.relay_world.specs.World.{Down, HostState, Host, Up}
use Rattle.relay_hosts.specs.declared.recorded.Recorded.{Recorded}
use Rattle.relay_hosts.specs.declared.work.Begun.{Begun}
use Rattle.relay_hosts.specs.declared.work.Begun.TheVariants as begun
use Rattle.relay_hosts.specs.declared.work.GivenUp.{GivenUp}
use Rattle.relay_hosts.specs.declared.work.GivenUp.TheVariants as given
use Rattle.relay_hosts.specs.Call.{NotesOne, Runs}
use Rattle.relay_report.specs.Report.{reporter_of}

-- the work that a node has due at a time; none if it is down
abbrev pub works_in : {D : Type 0} → ℕ → HostState D → List Work
works_in now (Up node) = works_of node.config.routes node.attempts now node.records.queue
works_in now (Down disk undecided) = []

-- the held places of a node; none if it is down
abbrev pub marks_in : {D : Type 0} → HostState D → List (ℕ × ℕ)
marks_in (Up node) = held_of node.records.queue
marks_in (Down disk undecided) = []

-- the attempts of a node that is up
abbrev pub attempts_in : {D : Type 0} → HostState D → List (Option Run)
attempts_in (Up node) = node.attempts
attempts_in (Down disk undecided) = []

-- An attempt for a host's first work has begun, unless there was no memory or no free number; the fault for a free
-- number comes exactly if there is none.
abbrev pub BeginsUnlessFull : {D : Type 0} → Host D → Begun → Type 0
BeginsUnlessFull old (begun.Done started) = IsFull (attempts_in old.state) → ⊥
BeginsUnlessFull old (begun.Refused fault) =
    ((fault ≡ node_fault.NoMemory) × (IsFull (attempts_in old.state) → ⊥))
    ⊎ ((fault ≡ node_fault.TooMany) × IsFull (attempts_in old.state))
BeginsUnlessFull old begun.NoRoom = Unit {0}

-- A host has opened a session for a client at this address, and greeted it.
pub record OpensSession {D : Type 0} (old new : Host D) (peer : List ℕ) (connected : Connected) : Type 0 where
  pub before : NodeState D
  pub after : NodeState D
  pub runs : Runs old new before after
  pub connects : Connects peer before after connected
  pub records : after.records ≡ before.records
  pub attempts : after.attempts ≡ before.attempts

-- A host has refused a client, for lack of memory, or of a free session exactly if it has none. The host is unchanged.
pub record RefusesSession {D : Type 0} (old new : Host D) (fault : NodeFault) : Type 0 where
  pub before : NodeState D
  pub up : old.state ≡ Up before
  pub only : (fault ≡ node_fault.NoMemory) ⊎ (fault ≡ node_fault.TooMany)
  pub full : (fault ≡ node_fault.TooMany) ↔ IsFull before.seats
  pub new_is : new ≡ old

abbrev pub OpensOrRefuses : {D : Type 0} → Host D → Host D → List ℕ → Result Connected NodeFault → Type 0
OpensOrRefuses old new peer (Ok connected) = OpensSession old new peer connected
OpensOrRefuses old new peer (Err fault) = RefusesSession old new fault

module _ {D : Type 0} (honest : Type 0) (words : DiskWords D) where
  -- the node keeps a list of changes
  pub record KnowsChanges (node : NodeState D) : Type 0 where
    pub changes : List Change
    pub keeps : Keeps honest words node.records changes

  abbrev pub HoldsChanges : HostState D → Type 0
  HoldsChanges (Up node) = KnowsChanges node
  HoldsChanges (Down disk undecided) = ⊥

  -- a node that is up keeps a list of changes
  abbrev pub KnowsIfUp : HostState D → Type 0
  KnowsIfUp (Up node) = KnowsChanges node
  KnowsIfUp (Down disk undecided) = Unit {0}

  -- the host is up, and its node keeps these changes
  abbrev pub KeepsUp : HostState D → List Change → Type 0
  KeepsUp (Up node) changes = Keeps honest words node.records changes
  KeepsUp (Down disk undecided) changes = ⊥

  -- the host is up, and its node keeps a list of changes
  abbrev pub HasChanges : Host D → Type 0
  HasChanges host = HoldsChanges host.state

  -- A host has begun an attempt for a message and a hop.
  pub record BeginsAttempt (now : ℕ) (old new : Host D) (message : ℕ) (hop : List ℕ) (started : Started) : Type 0 where
    pub before : NodeState D
    pub after : NodeState D
    pub runs : Runs old new before after
    pub begins : (changes : List Change) → Keeps honest words before.records changes
        → Begins before.config changes message hop now before.attempts after.attempts started
    pub records : after.records ≡ before.records
    pub seats : after.seats ≡ before.seats

  -- A host has refused to begin an attempt, for the first cause in the order of the faults. The host is unchanged.
  pub record RefusesAttempt (now : ℕ) (old new : Host D) (message : ℕ) (hop : List ℕ) (fault : NodeFault) : Type 0 where
    pub before : NodeState D
    pub up : old.state ≡ Up before
    pub refused : RefusesToStart before.config.host before.config.routes message hop now before.records before.attempts
        fault
    pub new_is : new ≡ old

  abbrev pub BeginsOrNot : ℕ → Host D → Host D → ℕ → List ℕ → Begun → Type 0
  BeginsOrNot now old new message hop (begun.Done started) = BeginsAttempt now old new message hop started
  BeginsOrNot now old new message hop (begun.Refused fault) = RefusesAttempt now old new message hop fault
  BeginsOrNot now old new message hop begun.NoRoom = new ≡ old

  -- why a node doesn't give up places: the first cause in the order of the faults
  abbrev pub RefusesFor : Reason → ℕ → NodeState D → ℕ → NodeFault → Type 0
  RefusesFor NoHop now node message fault =
      RefusesToGiveUp words (reporter_of node.config) node.config.routes message now node.records node.records fault
  RefusesFor (Postmaster withdrawal names) now node message fault =
      RefusesToWithdraw words (reporter_of node.config) node.attempts message now withdrawal names node.records
      node.records fault

  -- A host has given up places of a message without an attempt, by the change of this number, and none that the
  -- postmaster names was tried.
  pub record GivesUp (reason : Reason) (now : ℕ) (old new : Host D) (message change : ℕ) (recorded : Recorded)
      : Type 0 where
    pub before : NodeState D
    pub up : old.state ≡ Up before
    pub after : NodeState D
    pub gives_up : (changes : List Change) → Keeps honest words before.records changes
        → AddsGivenUp honest words (reporter_of before.config) before.config.routes reason message now changes
        before.records after.records change
    pub free : AreFree reason message before.attempts
    pub config : after.config ≡ before.config
    pub seats : after.seats ≡ before.seats
    pub attempts : after.attempts ≡ before.attempts
    pub notes : NotesOne old new after recorded

  -- The host's node stopped in that call because its device failed, and has a note of the outcome.
  pub record StopsGivingUp (reason : Reason) (now : ℕ) (old new : Host D) (message : ℕ) : Type 0 where
    pub before : NodeState D
    pub after : NodeState D
    pub runs : Runs old new before after
    pub cuts : (changes : List Change) → Keeps honest words before.records changes
        → CutsGivenUp honest words (reporter_of before.config) before.config.routes reason message now changes
        before.records after.records
    pub failed : IsStopped words 4 before.records after.records
    pub noted : Noted
    pub note_is : after.records.noted ≡ Some noted

  -- A host has refused to give them up, for the first cause in the order of the faults. The host is unchanged.
  pub record RefusesGivingUp (reason : Reason) (now : ℕ) (old new : Host D) (message : ℕ) (fault : NodeFault) : Type 0
    where
      pub before : NodeState D
      pub up : old.state ≡ Up before
      pub refused : RefusesFor reason now before message fault
      pub new_is : new ≡ old

  abbrev pub GivesUpOrNot : Reason → ℕ → Host D → Host D → ℕ → GivenUp → Type 0
  GivesUpOrNot reason now old new message (given.Done change recorded) =
      GivesUp reason now old new message change recorded
  GivesUpOrNot reason now old new message (given.Refused fault) = RefusesGivingUp reason now old new message fault
  GivesUpOrNot reason now old new message given.Stopped = StopsGivingUp reason now old new message
  GivesUpOrNot reason now old new message given.NoRoom = new ≡ old

  -- there is no room for the outcome that gives up the places of a message
  abbrev pub LacksRoom : ℕ → HostState D → ℕ → Type 0
  LacksRoom now (Up node) message = HasNoRoomFor words (reporter_of node.config) node.config.routes message now
      node.records
  LacksRoom now (Down disk undecided) message = ⊥

  -- The places of a message, as a host's first work, were given up, unless there was no memory or no room for their
  -- outcome.
  abbrev pub GivesUpUnlessFull : ℕ → Host D → ℕ → GivenUp → Type 0
  GivesUpUnlessFull now old message (given.Done change recorded) = Unit {0}
  GivesUpUnlessFull now old message (given.Refused fault) =
      (fault ≡ node_fault.NoMemory) ⊎ ((fault ≡ node_fault.Full) × LacksRoom now old.state message)
  GivesUpUnlessFull now old message given.Stopped = Unit {0}
  GivesUpUnlessFull now old message given.NoRoom = Unit {0}
