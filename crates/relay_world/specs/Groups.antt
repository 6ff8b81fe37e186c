-- A group: a node hears several links and reads replies on several, one after another, and the resulting accepts and
-- outcomes go to its records together. After a stop there are all of them or none.
use Rattle.std.specs.Prelude.{◌≡◌, ◌⊎◌, ◌≤◌, ℕ, true, List, [], ◌∷◌, ◌++◌, length, Option, Some, None, slice_get}
use Rattle.std.specs.List.{AllByRecursion}
use Rattle.relay_disk.specs.Device.{DiskWords}
use Rattle.relay_disk.specs.declared.disks.Disks.{Disks}
use Rattle.relay_book.specs.declared.change.Change.{Change}
use Rattle.relay_attempts.specs.declared.reply.Replied.{Replied}
use Rattle.relay_attempts.specs.Reply.{Told}
use Rattle.relay_node.specs.declared.receive.Received.{Received}
use Rattle.relay_node.specs.Attempts.{Tells}
use Rattle.relay_node.specs.Node.{IsIdle, NodeState}
use Rattle.relay_node.specs.Staging.{ReceivesAfter}
use Rattle.relay_records.specs.declared.noted.Noted.{Noted}
use Rattle.relay_records.specs.Open.{Opens}
use Rattle.relay_records.specs.Records.{IsStopped, Kept}
use Rattle.relay_records.specs.Staged.{Awaits, CutsAll, Row, Settles, no_row}
use Rattle.relay_slots.specs.Slots.{OthersStay}
use Rattle.relay_world.specs.declared.attempt.Fate.TheVariants.{Replied as RepliedBy}
use Rattle.relay_world.specs.declared.line.Line.TheVariants.{Accepted}
use Rattle.relay_world.specs.declared.link.Link.{Link}
use Rattle.relay_world.specs.Bound.{IsBound}
use Rattle.relay_world.specs.Crashes.{let_go}
use Rattle.relay_world.specs.Ledger.{left_lines, report_told}
use Rattle.relay_node.specs.StagedReplies.{RepliesInto}
use Rattle.relay_world.specs.Steps.{AttemptOf, DropsAttempt, EndsSession, IsPut, IsPutAt, SessionOf, heard_link}
use Rattle.relay_world.specs.Steps.{read_link, waiting_down, waiting_up}
use Rattle.relay_world.specs.Stops.{IsLeftBy, OnlyHostsChange}
use Rattle.relay_world.specs.World.{Host, Up, World, link_at}
use Rattle.relay_report.specs.Report.{reporter_of}

-- a link, by its number, and how many of its unread octets were carried
pub record Piece : Type 0 where
  pub number : ℕ
  pub count : ℕ

-- the node at this index is up
pub record IsUp {D : Type 0} (world : World D) (node : ℕ) : Type 0 where
  pub host : Host D
  pub host_at : slice_get world.hosts node ≡ Some host
  pub now : NodeState D
  pub up : host.state ≡ Up now

-- The node was opened again: its sessions are gone, its attempts dropped, and its links broken.
pub record IsOpenedAgain {D : Type 0} (world new : World D) (node : ℕ) (host : Host D) (after : NodeState D)
    : Type 0 where
  pub hosts : List (Host D)
  pub put : IsPut world.hosts hosts node (record host { state = Up after })
  pub as_many : length hosts ≡ length world.hosts
  pub idle : IsIdle host.config after
  pub new_is : new ≡ record (let_go node world) { hosts = hosts }

-- the piece's link, if it exists, is broken
abbrev pub IsOnBroken : List Link → Piece → Type 0
IsOnBroken links piece = (link : Link) → link_at links piece.number ≡ Some link → link.broken ≡ true

module _ {D : Type 0} (honest : Type 0) (words : DiskWords D) where
  -- the note comes after those of the row
  abbrev pub IsNotedAfter : Kept D → Row → Row → Noted → Type 0
  IsNotedAfter old row left note =
      (changes pending : List Change) → Awaits honest words old changes pending row
      → left.notes ≡ row.notes ++ note ∷ []

  -- What a node accepted from the octets that it heard: nothing, or mail of this number, whose record is staged in the
  -- row and not yet in the spool.
  abbrev pub AcceptsInto
      : (old new : World D) → (number : ℕ) → SessionOf old number → NodeState D → Row → Row → Option ℕ → Type 0
  AcceptsInto old new number of after row left None =
      IsPut old.hosts new.hosts of.end.node (record of.host { state = Up after }) × (new.ledger ≡ old.ledger)
  AcceptsInto old new number of after row left (Some change) =
      (noted : Noted) × IsNotedAfter of.before.records row left noted
      × IsPut old.hosts new.hosts of.end.node
      (record of.host { state = Up after; records = of.host.records ++ noted.octets ∷ [] })
      × (new.ledger ≡ old.ledger ++ Accepted of.end.node change noted.accepted number ∷ [])

  -- A node has heard octets of a link at a time, by one call, without a fault, and staged the accept after a row.
  -- Nothing of it is visible outside yet.
  pub record HasHeardInto (at : ℕ) (old new : World D) (node : ℕ) (piece : Piece) (row left : Row) : Type 0 where
    pub of : SessionOf old piece.number
    pub its_node : of.end.node ≡ node
    pub after : NodeState D
    pub received : Received
    pub receives : (changes pending : List Change) → Awaits honest words of.before.records changes pending row
        → ReceivesAfter honest words of.before.config changes pending at of.session (waiting_up piece.count of.link)
        of.before row after left received
    pub used : received.used ≤ length (waiting_up piece.count of.link)
    pub others : OthersStay of.before.seats after.seats of.session
    pub config : after.config ≡ of.before.config
    pub attempts : after.attempts ≡ of.before.attempts
    pub links : IsPutAt old.links new.links piece.number (heard_link of.link of.end of.session received)
    pub accepts : AcceptsInto old new piece.number of after row left received.change
    pub rest : (new.attempts ≡ old.attempts) × (new.clock ≡ old.clock) × (length new.hosts ≡ length old.hosts)

  -- What a node staged after reading replies to an attempt: its outcome, under this number, which isn't in the spool
  -- yet.
  pub record EndsInto (old new : World D) (number : ℕ) (of : AttemptOf old number) (after : NodeState D)
      (row left : Row) (change : ℕ) : Type 0 where
    pub noted : Noted
    pub is_noted : IsNotedAfter of.before.records row left noted
    pub hosts : IsPut old.hosts new.hosts of.attempt.node
        (record of.host { state = Up after; records = of.host.records ++ noted.octets ∷ [] })
    pub ledger : new.ledger
        ≡ old.ledger
        ++ left_lines of.attempt.node of.attempt.message number (report_told change noted.report) noted.left.items
    pub attempts : IsPut old.attempts new.attempts of.place (record of.attempt { fate = RepliedBy change })

  -- the replies ended the attempt, and its outcome is staged; or the attempt goes on, and nothing was recorded
  abbrev pub OutcomeInto
      : (old new : World D) → (number : ℕ) → AttemptOf old number → NodeState D → Row → Row → Option ℕ → Type 0
  OutcomeInto old new number of after row left None =
      IsPut old.hosts new.hosts of.attempt.node (record of.host { state = Up after }) × (new.ledger ≡ old.ledger)
      × (new.attempts ≡ old.attempts)
  OutcomeInto old new number of after row left (Some change) = EndsInto old new number of after row left change

  -- An attempt of a node has read replies on a link at a time, by one call, without a fault; its outcome, if they ended
  -- it, was staged after a row. Nothing of it is visible outside yet.
  pub record HasReadInto (at : ℕ) (old new : World D) (node : ℕ) (piece : Piece) (row left : Row) : Type 0 where
    pub of : AttemptOf old piece.number
    pub its_node : of.attempt.node ≡ node
    pub after : NodeState D
    pub replied : Replied
    pub replies : (changes pending : List Change) (told : Told)
        → Awaits honest words of.before.records changes pending row
        → Tells of.before.config.host (changes ++ pending) of.before.attempts of.slot told
        → RepliesInto honest words (reporter_of of.before.config) at changes pending of.slot told row
        (waiting_down piece.count of.link) of.before after left replied replied.change
    pub used : replied.used ≤ length (waiting_down piece.count of.link)
    pub others : OthersStay of.before.attempts after.attempts of.slot
    pub config : after.config ≡ of.before.config
    pub seats : after.seats ≡ of.before.seats
    pub links : IsPutAt old.links new.links piece.number (read_link of.link replied)
    pub outcome : OutcomeInto old new piece.number of after row left replied.change
    pub rest : (new.clock ≡ old.clock) × (length new.hosts ≡ length old.hosts)

  -- A node has processed one piece: it heard the link, or an attempt read it. Or it had too little memory, change
  -- numbers or room: then the session is gone, or the attempt dropped, and the row is the same.
  pub data HasTurnedTo (at : ℕ) (old new : World D) (node : ℕ) (piece : Piece) (row left : Row) : Type 0 where
    Heard : HasHeardInto at old new node piece row left → HasTurnedTo at old new node piece row left
    SessionEnded : (ends : EndsSession old new piece.number) → ends.of.end.node ≡ node → left ≡ row
        → HasTurnedTo at old new node piece row left
    Read : HasReadInto at old new node piece row left → HasTurnedTo at old new node piece row left
    AttemptDropped : (drops : DropsAttempt old new piece.number) → drops.of.attempt.node ≡ node → left ≡ row
        → HasTurnedTo at old new node piece row left

  -- the node has processed each of these pieces, one after another
  abbrev pub HasHeardEach : ℕ → World D → World D → ℕ → List Piece → Row → Row → Type 0
  HasHeardEach at old new node [] row left = (new ≡ old) × (left ≡ row)
  HasHeardEach at old new node (piece ∷ pieces) row left =
      (next : World D) × (more : Row) × HasTurnedTo at old next node piece row more
      × HasHeardEach at next new node pieces more left

  -- A node has heard or read these links, one after another, and then added the records of all accepts and outcomes to
  -- its spool. What it writes is on the links, unless they broke in the call.
  pub record HasHeardAll (old new : World D) (node : ℕ) (pieces : List Piece) : Type 0 where
    pub before : IsUp old node
    pub heard : World D
    pub row : Row
    pub each : HasHeardEach old.clock old heard node pieces no_row row
    pub staged : IsUp heard node
    pub after : NodeState D
    pub settles : (changes pending : List Change) → Awaits honest words staged.now.records changes pending row
        → Settles honest words after.records changes pending row.notes
    pub noted : after.records.noted ≡ staged.now.records.noted
    pub config : after.config ≡ staged.now.config
    pub seats : after.seats ≡ staged.now.seats
    pub attempts : after.attempts ≡ staged.now.attempts
    pub hosts : IsPut heard.hosts new.hosts node (record staged.host { state = Up after })
    pub rest : OnlyHostsChange heard new

  -- A node stopped while the records of a group were added to its spool, and was opened again. This is one event,
  -- because the node did nothing in between. Its links broke in the call, so nothing that it would have written was
  -- sent. If its next number is as before the group, none of the records is there, and it is as if nothing had been
  -- heard or read; else all of them are there.
  pub record HasReopenedAfterGroup (old new : World D) (node : ℕ) (pieces : List Piece) : Type 0 where
    pub before : IsUp old node
    pub broken : AllByRecursion (IsOnBroken old.links) pieces
    pub at : ℕ
    pub heard : World D
    pub row : Row
    pub each : HasHeardEach at old heard node pieces no_row row
    pub staged : IsUp heard node
    pub stopped : Kept D
    pub failed : IsStopped words 4 staged.now.records stopped
    pub cuts : (changes pending : List Change) → Awaits honest words staged.now.records changes pending row
        → CutsAll honest words stopped changes pending row.notes
    pub disk : Disks D
    pub left : IsLeftBy honest words stopped disk
    pub after : NodeState D
    pub opens : Opens honest words disk after.records
    pub decides : ((after.records.queue.next ≡ before.now.records.queue.next)
        × IsOpenedAgain old new node before.host after)
        ⊎ ((after.records.queue.next ≡ stopped.queue.next) × IsOpenedAgain heard new node staged.host after)

  -- Both preserve the invariant.
  abbrev pub HearingAllKeeps : Type 0
  HearingAllKeeps =
      (old new : World D) (lists : List (List Change)) (node : ℕ) (pieces : List Piece) → IsBound honest words old lists
      → HasHeardAll old new node pieces → (later : List (List Change)) × IsBound honest words new later

  abbrev pub ReopeningAfterGroupKeeps : Type 0
  ReopeningAfterGroupKeeps =
      (old new : World D) (lists : List (List Change)) (node : ℕ) (pieces : List Piece) → IsBound honest words old lists
      → HasReopenedAfterGroup old new node pieces → (later : List (List Change)) × IsBound honest words new later
