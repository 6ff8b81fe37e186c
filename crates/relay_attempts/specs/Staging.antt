-- What replies to attempts do to records that await changes, where the outcomes of several attempts come into the spool
-- together: each is staged with the report that is owed, in one change (RFC 3461, section 5.2).
use Rattle.std.specs.Prelude.{◌≡◌, ◌≢◌, ◌≤◌, ℕ, ◌+◌, ◌<◌, ◌^◌, false, List, [], ◌∷◌, ◌++◌, length, take, Option, None}
use Rattle.std.specs.Prelude.{Some}
use Rattle.relay_disk.specs.Device.{DiskWords}
use Rattle.relay_slots.specs.Slots.{slot_at}
use Rattle.relay_spool.specs.Image.{room_of}
use Rattle.relay_book.specs.declared.change.Change.{Change}
use Rattle.relay_book.specs.declared.change.Outcome.{Outcome}
use Rattle.relay_book.specs.declared.change.Verdict.{Verdict}
use Rattle.relay_book.specs.Queue.{FitsQueue}
use Rattle.relay_book.specs.Record.{encode}
use Rattle.relay_records.specs.declared.fault.NodeFault.{NodeFault}
use Rattle.relay_records.specs.declared.fault.NodeFault.TheVariants.{NoMemory, Unknown, Full}
use Rattle.relay_records.specs.declared.noted.Noted.{Noted}
use Rattle.relay_records.specs.Records.{Kept}
use Rattle.relay_records.specs.Staged.{Awaits, Row, Stages}
use Rattle.relay_report.specs.Report.{Reported, ReportedFrom, Reporter}
use Rattle.relay_attempts.specs.declared.reply.Replied.{Replied}
use Rattle.relay_attempts.specs.declared.runs.Run.{Run}
use Rattle.relay_attempts.specs.AddedOutcome.{reported_as}
use Rattle.relay_attempts.specs.Attempts.{AttemptTable}
use Rattle.relay_attempts.specs.Outcomes.{outcome_of, rulings_of}
use Rattle.relay_attempts.specs.Reply.{IsItsCourse, ReadsToEnd, TellsAt, Told, outcome_at, told_more}

-- The words below are of a row of changes that are pending, after those that records keep.
module _ {D : Type 0} (honest : Type 0) (words : DiskWords D) (reporter : Reporter) (changes pending : List Change)
    (row : Row) where
  -- the outcome is staged after the row with the report that is owed, as the change of this number
  pub record StagesOutcome (outcome : Outcome) (used : ℕ) (new : Kept D) (left : Row) (number : ℕ) : Type 0 where
    pub number_is : number ≡ length changes + length pending + 1
    pub report : List ℕ
    pub reported : Reported reporter (changes ++ pending) (reported_as outcome report)
    pub awaits : Awaits honest words new changes (pending ++ reported_as outcome report ∷ []) left
    pub note : Noted
    pub noted : left.notes ≡ row.notes ++ note ∷ []
    pub used_is : note.used ≡ used

  -- The words below are of a call at a time, for the attempt of a number, of which this is told.
  module _ (now number : ℕ) (told : Told) where
    -- it goes on after the whole piece, and nothing was staged
    pub record GoesOnAfter (piece : List ℕ) (old new : Kept D) (left : Row) (runs : List (Option Run))
        (replied : Replied) : Type 0 where
      pub used : replied.used ≡ length piece
      pub same : new ≡ old
      pub row_is : left ≡ row
      pub tells : TellsAt reporter.host new.queue runs number
          (told_more told (take replied.used piece) replied.out.items)

    -- it has ended, and its outcome was staged, as the change of this number
    pub record HasEndedAfter (piece : List ℕ) (new : Kept D) (left : Row) (runs : List (Option Run))
        (replied : Replied) (change : ℕ) : Type 0 where
      pub verdicts : List Verdict
      pub course : IsItsCourse reporter.host (told_more told (take replied.used piece) replied.out.items) false verdicts
      pub stages : StagesOutcome (outcome_at now told verdicts) replied.used new left change
      pub gone : slot_at runs number ≡ None

    abbrev pub RepliesAfter
        : List ℕ → Kept D → Kept D → Row → List (Option Run) → Replied → Option ℕ → Type 0
    RepliesAfter piece old new left runs replied None = GoesOnAfter piece old new left runs replied
    RepliesAfter piece old new left runs replied (Some change) = HasEndedAfter piece new left runs replied change

-- what an outcome that was staged, with the report that is owed, did to records and row, whatever they keep
pub record GrowsRowBy {D : Type 0} (reporter : Reporter) (outcome : Outcome) (used : ℕ) (old new : Kept D)
    (row left : Row) (number : ℕ) : Type 0 where
  pub report : List ℕ
  pub reported : ReportedFrom reporter old.queue (reported_as outcome report)
  pub fits : FitsQueue old.queue (reported_as outcome report)
  pub stages : Stages old new row left (reported_as outcome report) used number

-- changes have no numbers any more, or the outcome, with the report that is owed, would bring the spool past 2^40
-- octets with the row before it
pub data HasNoRoomAfter {D : Type 0} (reporter : Reporter) (outcome : Outcome) (old : Kept D) (row : Row)
    : Type 0 where
  NoNumber : 2 ^ 62 < old.queue.next → HasNoRoomAfter reporter outcome old row
  TooLarge : (report : List ℕ) → ReportedFrom reporter old.queue (reported_as outcome report)
      → 2 ^ 40 < old.spool.size + room_of row.bodies + 5 + length (encode (reported_as outcome report))
      → HasNoRoomAfter reporter outcome old row

-- what is left where no outcome is staged
abbrev pub RefusesToStageOutcome
    : {D : Type 0} → Reporter → Outcome → Kept D → Kept D → Row → Row → NodeFault → Type 0
RefusesToStageOutcome reporter outcome old new row left NoMemory = (new ≡ old) × (left ≡ row)
RefusesToStageOutcome reporter outcome old new row left Full =
    (new ≡ old) × (left ≡ row) × HasNoRoomAfter reporter outcome old row
RefusesToStageOutcome reporter outcome old new row left other = ⊥

-- there is no room for the outcome with which it ends, after a row
pub record HasNoRoomAtEndAfter {D : Type 0} (reporter : Reporter) (now : ℕ) (told : Told) (piece : List ℕ)
    (old : Kept D) (row : Row) : Type 0 where
  pub ends : ReadsToEnd reporter.host told piece
  pub room : HasNoRoomAfter reporter (outcome_at now told ends.verdicts) old row

-- The words below are of the same, whatever is told of the attempt.
module _ {D : Type 0} (reporter : Reporter) (now number : ℕ) where
  -- it has ended: of its message, hop and places an outcome was staged, as the change of this number
  pub record EndsAfter (before after : List (Option Run)) (used : ℕ) (old new : Kept D) (row left : Row)
      (change : ℕ) : Type 0 where
    pub run : Run
    pub was : slot_at before number ≡ Some run
    pub gone : slot_at after number ≡ None
    pub verdicts : List Verdict
    pub each : length verdicts ≡ length run.places.items
    pub grows : GrowsRowBy reporter (outcome_of run.message now run.hop (rulings_of run.places.items verdicts)) used
        old new row left change

  -- the change that a reply staged, if it staged one
  abbrev pub MakesAfter
      : List (Option Run) → List (Option Run) → ℕ → Kept D → Kept D → Row → Row → Option ℕ → Type 0
  MakesAfter before after used old new row left None =
      (slot_at before number ≢ None) × (new ≡ old) × (left ≡ row)
  MakesAfter before after used old new row left (Some change) =
      EndsAfter before after used old new row left change

  -- it used octets of a piece of this length: all, unless it has ended
  pub record HasHeardAfter (len : ℕ) (before after : List (Option Run)) (old new : Kept D) (row left : Row)
      (replied : Replied) : Type 0 where
    pub within : replied.used ≤ len
    pub whole : replied.change ≡ None → replied.used ≡ len
    pub makes : MakesAfter before after replied.used old new row left replied.change

-- what is left where a reply to the attempt of a number is refused by live records: the attempt is gone, unless there
-- was none, and records and row are the same
abbrev pub RefusesToHearAfter
    : {D : Type 0} → ℕ → AttemptTable → AttemptTable → Kept D → Kept D → Row → Row → NodeFault → Type 0
RefusesToHearAfter number before after old new row left NoMemory =
    (slot_at before.runs number ≢ None) × (slot_at after.runs number ≡ None) × (new ≡ old) × (left ≡ row)
RefusesToHearAfter number before after old new row left Unknown =
    (slot_at before.runs number ≡ None) × (after ≡ before) × (new ≡ old) × (left ≡ row)
RefusesToHearAfter number before after old new row left Full =
    (slot_at before.runs number ≢ None) × (slot_at after.runs number ≡ None) × (new ≡ old) × (left ≡ row)
RefusesToHearAfter number before after old new row left other = ⊥
