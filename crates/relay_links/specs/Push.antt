-- What a link of an attempt over a reader and a writer has done: a course, and at its end one outcome.
use Rattle.std.specs.Prelude.{◌≡◌, ◌≢◌, ◌⊎◌, ℕ, Bool, true, false, List, [], ◌++◌, Option, Some, None, Result, Ok, Err}
use Rattle.std.specs.Io.KnownBytes.{Appends, Consumes, IsAtEnd}
use Rattle.relay_disk.specs.Device.{DiskWords}
use Rattle.relay_book.specs.declared.change.Change.{Change}
use Rattle.relay_book.specs.declared.change.Verdict.{Verdict}
use Rattle.relay_book.specs.declared.change.Outcome.{Outcome}
use Rattle.relay_records.specs.Records.{IsStopped, Keeps, Kept}
use Rattle.relay_attempts.specs.AddedOutcome.{AddsOutcome, CutsOutcome, GrowsBy, HasNoRoom}
use Rattle.relay_course.specs.Course.{IsCourse}
use Rattle.relay_course.specs.VerdictTable.{all_later}
use Rattle.relay_attempts.specs.Reply.{Told, outcome_at, told_more}
use Rattle.relay_slots.specs.Slots.{slot_at}
use Rattle.relay_node.specs.Attempts.{Tells}
use Rattle.relay_node.specs.Node.{NodeState}
use Rattle.relay_links.specs.declared.fault.LinkFault.{LinkFault}
use Rattle.relay_links.specs.declared.fault.LinkFault.TheVariants.{Input, Output, NoMemory, Full, Device}
use Rattle.relay_links.specs.declared.push.Pushed.{Pushed}
use Rattle.relay_links.specs.declared.push.Pushed.TheVariants.{Ended, Unwritten, Lost}
use Rattle.relay_links.specs.declared.push.Way.{Way}
use Rattle.relay_links.specs.declared.push.Way.TheVariants as way
use Rattle.relay_report.specs.Report.{Reporter, reporter_of}

-- where a link of an attempt begins: what its reader still has and its writer holds, who reports by its host's name,
-- the changes that the node keeps, and what is told of the attempt
pub record PushStart : Type 0 where
  pub left : Option (List ℕ)
  pub held : Option (List ℕ)
  pub reporter : Reporter
  pub changes : List Change
  pub told : Told

-- a link of this node's attempt begins, of which this is told; the node keeps these changes
abbrev pub push_start_at : {D : Type 0} → Option (List ℕ) → Option (List ℕ) → NodeState D → List Change → Told
    → PushStart
push_start_at left held node changes told =
    record { left = left; held = held; reporter = reporter_of node.config; changes = changes; told = told }

-- The words below are of a link from its start on, at a time.
module _ {D : Type 0} (honest : Type 0) (words : DiskWords D) (start : PushStart) (at : ℕ) where
  -- The attempt of this number has read what was read but for these octets, which wait, and it wrote what was written
  -- and these octets after that, which weren't; the node keeps the changes of before.
  pub record IsAt (number : ℕ) (left held : Option (List ℕ)) (waiting unwritten : List ℕ) (node : NodeState D)
      : Type 0 where
    pub input : List ℕ
    pub written : List ℕ
    pub reporter : reporter_of node.config ≡ start.reporter
    pub reads : Consumes start.left left (input ++ waiting)
    pub writes : Appends start.held held written
    pub keeps : Keeps honest words node.records start.changes
    pub tells : Tells start.reporter.host start.changes node.attempts number (told_more start.told input (written ++
        unwritten))

  -- What was read and written is the attempt's course, told of a loss or not, with these verdicts or none yet: but for
  -- octets that were read and not used, and these octets, which weren't written any more.
  pub record Goes (left held : Option (List ℕ)) (unwritten : List ℕ) (lost : Bool) (verdicts : Option (List Verdict))
      : Type 0 where
    pub input : List ℕ
    pub unused : List ℕ
    pub written : List ℕ
    pub reads : Consumes start.left left (input ++ unused)
    pub writes : Appends start.held held written
    pub course : IsCourse start.reporter.host start.told.envelope start.told.text start.told.places
        (start.told.input ++ input) lost (start.told.output ++ (written ++ unwritten)) verdicts

  -- the outcome with these verdicts, and the report that is owed, is the one change that was added
  pub record Concludes (verdicts : List Verdict) (records : Kept D) : Type 0 where
    pub used : ℕ
    pub number : ℕ
    pub adds : AddsOutcome honest words start.reporter start.changes (outcome_at at start.told verdicts) used records
        number

  -- a stop came while that outcome was added
  pub record IsCut (verdicts : List Verdict) (records : Kept D) : Type 0 where
    pub used : ℕ
    pub cuts : CutsOutcome honest words start.reporter start.changes (outcome_at at start.told verdicts) used records

  -- the course has come to verdicts, and its outcome was added
  pub record PushHasEnded (left held : Option (List ℕ)) (unwritten : List ℕ) (records : Kept D) : Type 0 where
    pub verdicts : List Verdict
    pub goes : Goes left held unwritten false (Some verdicts)
    pub concludes : Concludes verdicts records

  -- its connection is lost, of which the outcome was added: each place may be tried again
  pub record HasLost (left held : Option (List ℕ)) (records : Kept D) : Type 0 where
    pub unwritten : List ℕ
    pub goes : Goes left held unwritten true (Some (all_later start.told.places))
    pub concludes : Concludes (all_later start.told.places) records

  -- how a link has ended: what wasn't written of what an attempt wrote at its end is one octet at least
  abbrev pub HasPushed : Option (List ℕ) → Option (List ℕ) → Kept D → Pushed → Type 0
  HasPushed left held records Ended = PushHasEnded left held [] records
  HasPushed left held records Unwritten =
      (unwritten : List ℕ) × (unwritten ≢ []) × PushHasEnded left held unwritten records
  HasPushed left held records Lost = HasLost left held records

  -- the attempt is gone without an outcome, and the node keeps the changes of before
  pub record HasDropped (left held : Option (List ℕ)) (records : Kept D) : Type 0 where
    pub unwritten : List ℕ
    pub goes : Goes left held unwritten false None
    pub keeps : Keeps honest words records start.changes

  -- the attempt is gone without an outcome, since there is no room for that of its course, or of its loss; the node
  -- keeps the changes of before
  pub record HasFilled (left held : Option (List ℕ)) (records : Kept D) : Type 0 where
    pub unwritten : List ℕ
    pub lost : Bool
    pub verdicts : List Verdict
    pub goes : Goes left held unwritten lost (Some verdicts)
    pub room : HasNoRoom start.reporter (outcome_at at start.told verdicts) records
    pub keeps : Keeps honest words records start.changes

  -- the device failed while the outcome of the course, or of its loss, was added
  pub record HasStopped (left held : Option (List ℕ)) (records : Kept D) : Type 0 where
    pub unwritten : List ℕ
    pub lost : Bool
    pub verdicts : List Verdict
    pub goes : Goes left held unwritten lost (Some verdicts)
    pub cut : IsCut verdicts records

  -- what a fault leaves
  abbrev pub HasFailed : Option (List ℕ) → Option (List ℕ) → Kept D → LinkFault → Type 0
  HasFailed left held records Input = ⊥
  HasFailed left held records Output = ⊥
  HasFailed left held records NoMemory = HasDropped left held records
  HasFailed left held records Full = HasFilled left held records
  HasFailed left held records Device = HasStopped left held records

  -- a link has ended, or a fault has come
  abbrev pub PushesTo : Option (List ℕ) → Option (List ℕ) → Kept D → Result Pushed LinkFault → Type 0
  PushesTo left held records (Ok pushed) = HasPushed left held records pushed
  PushesTo left held records (Err fault) = HasFailed left held records fault

  -- the attempt goes on, or it has ended, or the input has, or its connection is of no use any more
  abbrev pub TakesWay : ℕ → Option (List ℕ) → Option (List ℕ) → NodeState D → Way → Type 0
  TakesWay number left held node way.On = IsAt number left held [] [] node
  TakesWay number left held node way.Ended = PushHasEnded left held [] node.records
  TakesWay number left held node way.Unwritten =
      (unwritten : List ℕ) × (unwritten ≢ []) × PushHasEnded left held unwritten node.records
  TakesWay number left held node way.AtEnd = IsAtEnd left × IsAt number left held [] [] node
  TakesWay number left held node way.Broken =
      (waiting : List ℕ) × (unwritten : List ℕ) × IsAt number left held waiting unwritten node

  -- it has gone some way, or a fault has come
  abbrev pub WaysTo : ℕ → Option (List ℕ) → Option (List ℕ) → NodeState D → Result Way LinkFault → Type 0
  WaysTo number left held node (Ok step) = TakesWay number left held node step
  WaysTo number left held node (Err fault) = HasFailed left held node.records fault

-- What a link of an attempt did to the records, whatever list they keep: an outcome was added, with the report that is
-- owed, and the spool has grown by the link of that record alone.
abbrev pub HasGrown : {D : Type 0} → DiskWords D → NodeState D → NodeState D → Type 0
HasGrown words old new =
    (outcome : Outcome) × (number : ℕ) × GrowsBy words (reporter_of old.config) outcome old.records new.records number

-- A fault of the device has stopped them, or they were stopped before; at any other fault they are the same.
abbrev pub LeavesRecords : {D : Type 0} → DiskWords D → NodeState D → NodeState D → LinkFault → Type 0
LeavesRecords words old new Device =
    IsStopped words 4 old.records new.records ⊎ ((old.records.spool.live ≡ false) × (new.records ≡ old.records))
LeavesRecords words old new other = new.records ≡ old.records

-- what a link that has ended, or one that has gone some way, did to them
abbrev pub Ends : {D : Type 0} → DiskWords D → NodeState D → NodeState D → Result Pushed LinkFault → Type 0
Ends words old new (Ok pushed) = HasGrown words old new
Ends words old new (Err fault) = LeavesRecords words old new fault

abbrev pub Moves : {D : Type 0} → DiskWords D → NodeState D → NodeState D → Result Way LinkFault → Type 0
Moves words old new (Ok way.On) = new.records ≡ old.records
Moves words old new (Ok way.Ended) = HasGrown words old new
Moves words old new (Ok way.Unwritten) = HasGrown words old new
Moves words old new (Ok way.AtEnd) = new.records ≡ old.records
Moves words old new (Ok way.Broken) = new.records ≡ old.records
Moves words old new (Err fault) = LeavesRecords words old new fault

-- The attempt of a number is gone, unless it goes on, or its connection is lost of which the node wasn't told. Of a
-- node that is stopped nothing is said.
abbrev pub IsGoneBy : {D : Type 0} → ℕ → NodeState D → Result Way LinkFault → Type 0
IsGoneBy number new (Ok way.On) = Unit {0}
IsGoneBy number new (Ok way.Ended) = slot_at new.attempts number ≡ None
IsGoneBy number new (Ok way.Unwritten) = slot_at new.attempts number ≡ None
IsGoneBy number new (Ok way.AtEnd) = Unit {0}
IsGoneBy number new (Ok way.Broken) = Unit {0}
IsGoneBy number new (Err fault) = new.records.spool.live ≡ true → slot_at new.attempts number ≡ None
