-- The effect of a node's calls on its host.
use Rattle.std.specs.Prelude.{◌≡◌, ◌⊎◌, ℕ, ◌<◌, ◌≤◌, ◌^◌, Bool, true, false, List, [], ◌∷◌, ◌++◌, length, Option, None}
use Rattle.std.specs.Prelude.{Some}
use Rattle.relay_disk.specs.Device.{DiskWords}
use Rattle.relay_slots.specs.Slots.{OthersStay, slot_at}
use Rattle.relay_server.specs.Dialogue.{Said}
use Rattle.relay_server.specs.Setup.{setup_for}
use Rattle.relay_book.specs.declared.change.Change.{Change}
use Rattle.relay_records.specs.declared.fault.NodeFault.{NodeFault}
use Rattle.relay_records.specs.declared.fault.NodeFault.TheVariants as node_fault
use Rattle.relay_records.specs.declared.noted.Noted.{Noted}
use Rattle.relay_records.specs.Records.{IsStopped, Keeps}
use Rattle.relay_attempts.specs.declared.reply.Replied.{Replied}
use Rattle.relay_attempts.specs.Reply.{CutsLoss, CutsReply, HasNoRoomAtEnd, HasNoRoomAtLoss, IsLost, Told}
use Rattle.relay_node.specs.declared.receive.Received.{Received}
use Rattle.relay_node.specs.Attempts.{Replies, Tells}
use Rattle.relay_node.specs.Node.{CutsTalk, Receives, SeatHasSaid, NodeState}
use Rattle.relay_node.specs.Room.{ComesToOffer}
use Rattle.relay_world.specs.Steps.{without_note}
use Rattle.relay_world.specs.World.{Down, HostState, Host, Up}
use Rattle.relay_hosts.specs.declared.recorded.Recorded.{Recorded}
use Rattle.relay_hosts.specs.declared.calls.Heard.{Heard}
use Rattle.relay_hosts.specs.declared.calls.Heard.TheVariants as heard
use Rattle.relay_hosts.specs.declared.calls.Read.{Read}
use Rattle.relay_hosts.specs.declared.calls.Read.TheVariants as read
use Rattle.relay_hosts.specs.declared.calls.ToldLoss.{ToldLoss}
use Rattle.relay_hosts.specs.declared.calls.ToldLoss.TheVariants as loss
use Rattle.relay_report.specs.Report.{reporter_of}

-- whether this fault means that the node has stopped
abbrev pub is_stop : NodeFault → Bool
is_stop node_fault.NoMemory = false
is_stop node_fault.Stopped = true
is_stop node_fault.Unknown = false
is_stop node_fault.TooMany = false
is_stop node_fault.NotDue = false
is_stop node_fault.Busy = false
is_stop (node_fault.Open cause) = false
is_stop node_fault.Full = false
is_stop node_fault.NoSecond = false

-- the octets complete a message on a session, and change numbers have run out
pub record LacksNumber {D : Type 0} (node : NodeState D) (session : ℕ) (piece : List ℕ) : Type 0 where
  pub none_left : 2 ^ 62 < node.records.queue.next
  pub comes : (peer : List ℕ) (said : Said) → SeatHasSaid node.config node.seats session peer said
      → ComesToOffer (setup_for node.config peer) said piece

-- why a host loses a session on which octets came: too little memory, or no number for a message
abbrev pub IsWhyUnheard : {D : Type 0} → HostState D → ℕ → List ℕ → NodeFault → Type 0
IsWhyUnheard (Up node) session piece fault =
    (fault ≡ node_fault.NoMemory) ⊎ ((fault ≡ node_fault.Full) × LacksNumber node session piece)
IsWhyUnheard (Down disk undecided) session piece fault = ⊥

-- the host is up, and its node changes from the one state to the other
pub record Runs {D : Type 0} (old new : Host D) (before after : NodeState D) : Type 0 where
  pub up : old.state ≡ Up before
  pub config : after.config ≡ before.config
  pub new_is : new ≡ record old { state = Up after }

-- what a change recorded is what its note says
pub record TellsNote (noted : Noted) (recorded : Recorded) : Type 0 where
  pub accepted : recorded.accepted ≡ noted.accepted
  pub left : recorded.left.items ≡ noted.left.items
  pub report : recorded.report ≡ noted.report

-- the node's note was taken, and its record appended to the earlier ones
pub record TakesNote {D : Type 0} (before after : NodeState D) (old new : List (List ℕ)) (recorded : Recorded)
    : Type 0 where
  pub noted : Noted
  pub note_is : before.records.noted ≡ Some noted
  pub tells : TellsNote noted recorded
  pub after_is : after ≡ without_note before
  pub records : new ≡ old ++ noted.octets ∷ []

-- The host after a call that added a change: the note was taken, and its record appended.
pub record NotesOne {D : Type 0} (old new : Host D) (after : NodeState D) (recorded : Recorded) : Type 0 where
  pub noted : Noted
  pub note_is : after.records.noted ≡ Some noted
  pub tells : TellsNote noted recorded
  pub new_is : new ≡ record old { state = Up (without_note after); records = old.records ++ noted.octets ∷ [] }

-- the host after a call that added the change of this number, or none
abbrev pub NotesChange : {D : Type 0} → Host D → Host D → NodeState D → Option ℕ → Option Recorded → Type 0
NotesChange old new after None None = new ≡ record old { state = Up after }
NotesChange old new after None (Some recorded) = ⊥
NotesChange old new after (Some change) None = ⊥
NotesChange old new after (Some change) (Some recorded) = NotesOne old new after recorded

-- The host's node has lost the session of this number, which is free now, and nothing else.
pub record LosesSession {D : Type 0} (old new : Host D) (session : ℕ) : Type 0 where
  pub before : NodeState D
  pub after : NodeState D
  pub runs : Runs old new before after
  pub records : after.records ≡ before.records
  pub gone : slot_at after.seats session ≡ None
  pub others : OthersStay before.seats after.seats session
  pub attempts : after.attempts ≡ before.attempts

-- the host's node has lost the attempt of this number, which is free now, and nothing else
pub record LosesAttempt {D : Type 0} (old new : Host D) (slot : ℕ) : Type 0 where
  pub before : NodeState D
  pub after : NodeState D
  pub runs : Runs old new before after
  pub records : after.records ≡ before.records
  pub gone : slot_at after.attempts slot ≡ None
  pub others : OthersStay before.attempts after.attempts slot
  pub seats : after.seats ≡ before.seats

module _ {D : Type 0} (honest : Type 0) (words : DiskWords D) where
  -- the node keeps a list of changes, and has an exchange on its session of this number
  pub record KnowsSession (node : NodeState D) (session : ℕ) : Type 0 where
    pub changes : List Change
    pub keeps : Keeps honest words node.records changes
    pub peer : List ℕ
    pub said : Said
    pub says : SeatHasSaid node.config node.seats session peer said

  -- the node keeps a list of changes, and has a history of its attempt of this number
  pub record KnowsAttempt (node : NodeState D) (slot : ℕ) : Type 0 where
    pub changes : List Change
    pub keeps : Keeps honest words node.records changes
    pub told : Told
    pub tells : Tells node.config.host changes node.attempts slot told

  abbrev pub HoldsSession : HostState D → ℕ → Type 0
  HoldsSession (Up node) session = KnowsSession node session
  HoldsSession (Down disk undecided) session = ⊥

  abbrev pub HoldsAttempt : HostState D → ℕ → Type 0
  HoldsAttempt (Up node) slot = KnowsAttempt node slot
  HoldsAttempt (Down disk undecided) slot = ⊥

  -- the host is up, and has a running session or attempt of this number
  abbrev pub HasSession : Host D → ℕ → Type 0
  HasSession host session = HoldsSession host.state session

  abbrev pub HasAttempt : Host D → ℕ → Type 0
  HasAttempt host slot = HoldsAttempt host.state slot

  -- why a host loses an attempt for which replies came: too little memory to read them, or no room for the outcome
  abbrev pub IsWhyUnread : ℕ → HostState D → ℕ → List ℕ → NodeFault → Type 0
  IsWhyUnread now (Up node) slot piece fault =
      (fault ≡ node_fault.NoMemory)
      ⊎ ((fault ≡ node_fault.Full) × ((changes : List Change) (told : Told) → Keeps honest words node.records changes
      → Tells node.config.host changes node.attempts slot told
      → HasNoRoomAtEnd (reporter_of node.config) now told piece node.records))
  IsWhyUnread now (Down disk undecided) slot piece fault = ⊥

  -- why a host loses an attempt whose link was lost: too little memory for the outcome, or no room
  abbrev pub IsWhyUntold : ℕ → HostState D → ℕ → NodeFault → Type 0
  IsWhyUntold now (Up node) slot fault =
      (fault ≡ node_fault.NoMemory)
      ⊎ ((fault ≡ node_fault.Full) × ((changes : List Change) (told : Told) → Keeps honest words node.records changes
      → Tells node.config.host changes node.attempts slot told
      → HasNoRoomAtLoss (reporter_of node.config) now told node.records))
  IsWhyUntold now (Down disk undecided) slot fault = ⊥

  -- A host has heard octets on a session, without a fault.
  pub record Hears (now : ℕ) (old new : Host D) (session : ℕ) (piece : List ℕ) (received : Received)
      (recorded : Option Recorded) : Type 0 where
    pub before : NodeState D
    pub up : old.state ≡ Up before
    pub after : NodeState D
    pub receives : (changes : List Change) (peer : List ℕ) (said : Said) → Keeps honest words before.records changes
        → SeatHasSaid before.config before.seats session peer said
        → Receives honest words before.config changes peer now session said piece before after received
    pub used : received.used ≤ length piece
    pub others : OthersStay before.seats after.seats session
    pub config : after.config ≡ before.config
    pub attempts : after.attempts ≡ before.attempts
    pub notes : NotesChange old new after received.change recorded

  -- The host's node stopped in that call because its device failed, and has a note of the accept.
  pub record StopsHearing (now : ℕ) (old new : Host D) (session : ℕ) (piece : List ℕ) : Type 0 where
    pub before : NodeState D
    pub after : NodeState D
    pub runs : Runs old new before after
    pub cuts : (changes : List Change) (peer : List ℕ) (said : Said) → Keeps honest words before.records changes
        → SeatHasSaid before.config before.seats session peer said
        → CutsTalk honest words before.config changes peer now said piece before.records after.records
    pub failed : IsStopped words 4 before.records after.records
    pub noted : Noted
    pub note_is : after.records.noted ≡ Some noted

  abbrev pub HearsOrNot : ℕ → Host D → Host D → ℕ → List ℕ → Heard → Type 0
  HearsOrNot now old new session piece (heard.Done received recorded) =
      Hears now old new session piece received recorded
  HearsOrNot now old new session piece (heard.Gone fault) =
      LosesSession old new session × IsWhyUnheard old.state session piece fault
  HearsOrNot now old new session piece heard.Stopped = StopsHearing now old new session piece
  HearsOrNot now old new session piece heard.NoRoom = new ≡ old

  -- A host has read replies for an attempt, without a fault.
  pub record Reads (now : ℕ) (old new : Host D) (slot : ℕ) (piece : List ℕ) (replied : Replied)
      (recorded : Option Recorded) : Type 0 where
    pub before : NodeState D
    pub up : old.state ≡ Up before
    pub after : NodeState D
    pub replies : (changes : List Change) (told : Told) → Keeps honest words before.records changes
        → Tells before.config.host changes before.attempts slot told
        → Replies honest words (reporter_of before.config) now changes slot told piece before after replied
    pub used : replied.used ≤ length piece
    pub others : OthersStay before.attempts after.attempts slot
    pub config : after.config ≡ before.config
    pub seats : after.seats ≡ before.seats
    pub notes : NotesChange old new after replied.change recorded

  -- The host's node stopped in that call because its device failed, and has a note of the outcome.
  pub record StopsReading (now : ℕ) (old new : Host D) (slot : ℕ) (piece : List ℕ) : Type 0 where
    pub before : NodeState D
    pub after : NodeState D
    pub runs : Runs old new before after
    pub cuts : (changes : List Change) (told : Told) → Keeps honest words before.records changes
        → Tells before.config.host changes before.attempts slot told
        → CutsReply honest words (reporter_of before.config) now changes slot told piece after.records
    pub failed : IsStopped words 4 before.records after.records
    pub noted : Noted
    pub note_is : after.records.noted ≡ Some noted

  abbrev pub ReadsOrNot : ℕ → Host D → Host D → ℕ → List ℕ → Read → Type 0
  ReadsOrNot now old new slot piece (read.Done replied recorded) = Reads now old new slot piece replied recorded
  ReadsOrNot now old new slot piece (read.Gone fault) =
      LosesAttempt old new slot × IsWhyUnread now old.state slot piece fault
  ReadsOrNot now old new slot piece read.Stopped = StopsReading now old new slot piece

  -- A host has noticed that the connection of an attempt is lost, and has recorded the outcome, under this number.
  pub record Loses (now : ℕ) (old new : Host D) (slot change : ℕ) (recorded : Recorded) : Type 0 where
    pub before : NodeState D
    pub up : old.state ≡ Up before
    pub after : NodeState D
    pub loses : (changes : List Change) (told : Told) → Keeps honest words before.records changes
        → Tells before.config.host changes before.attempts slot told
        → IsLost honest words (reporter_of before.config) now changes slot told before.records after.records
        after.attempts
        change
    pub others : OthersStay before.attempts after.attempts slot
    pub config : after.config ≡ before.config
    pub seats : after.seats ≡ before.seats
    pub notes : NotesOne old new after recorded

  -- The host's node stopped in that call because its device failed, and has a note of the outcome.
  pub record StopsLosing (now : ℕ) (old new : Host D) (slot : ℕ) : Type 0 where
    pub before : NodeState D
    pub after : NodeState D
    pub runs : Runs old new before after
    pub cuts : (changes : List Change) (told : Told) → Keeps honest words before.records changes
        → Tells before.config.host changes before.attempts slot told
        → CutsLoss honest words (reporter_of before.config) now changes slot told after.records
    pub failed : IsStopped words 4 before.records after.records
    pub noted : Noted
    pub note_is : after.records.noted ≡ Some noted

  -- the result of reporting a lost connection to the host of an attempt
  abbrev pub IsToldLoss : ℕ → Host D → Host D → ℕ → ToldLoss → Type 0
  IsToldLoss now old new slot (loss.Ended change recorded) = Loses now old new slot change recorded
  IsToldLoss now old new slot (loss.Gone fault) =
      LosesAttempt old new slot × IsWhyUntold now old.state slot fault
  IsToldLoss now old new slot loss.Stopped = StopsLosing now old new slot
