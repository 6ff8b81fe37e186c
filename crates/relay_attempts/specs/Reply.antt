-- What is told of an attempt that runs, and how it goes on or ends.
use Rattle.std.specs.Prelude.{◌≡◌, ◌≢◌, ◌⊎◌, ◌≤◌, ℕ, Bool, true, false, List, ◌++◌, length, take, Option, None, Some}
use Rattle.relay_disk.specs.Device.{DiskWords}
use Rattle.relay_slots.specs.Slots.{slot_at}
use Rattle.relay_envelope.specs.declared.envelope.Envelope.{Envelope}
use Rattle.relay_book.specs.declared.change.Change.{Change}
use Rattle.relay_book.specs.declared.change.Outcome.{Outcome}
use Rattle.relay_book.specs.declared.change.Verdict.{Verdict}
use Rattle.relay_book.specs.declared.message.Message.{Message}
use Rattle.relay_book.specs.Queue.{Queue, message_of}
use Rattle.relay_spool.specs.Spool.{Passes}
use Rattle.relay_records.specs.Records.{IsStopped, Kept}
use Rattle.relay_records.specs.declared.fault.NodeFault.{NodeFault}
use Rattle.relay_records.specs.declared.fault.NodeFault.TheVariants.{NoMemory, Stopped, Unknown, Full}
use Rattle.relay_report.specs.Report.{Reporter}
use Rattle.relay_attempts.specs.AddedOutcome.{AddsOutcome, CutsOutcome, GrowsBy, HasNoRoom}
use Rattle.relay_course.specs.Course.{IsCourse}
use Rattle.relay_course.specs.VerdictTable.{all_later}
use Rattle.relay_client.specs.Attempt.{Follows}
use Rattle.relay_attempts.specs.declared.runs.Run.{Run}
use Rattle.relay_attempts.specs.declared.reply.Replied.{Replied}
use Rattle.relay_attempts.specs.Attempts.{AttemptTable}
use Rattle.relay_attempts.specs.Outcomes.{outcome_of, rulings_of}

-- of an attempt: its message, hop and places, the envelope and stored text that it relays, and what it has read and
-- written
pub record Told : Type 0 where
  pub message : ℕ
  pub hop : List ℕ
  pub places : List ℕ
  pub envelope : Envelope
  pub text : List ℕ
  pub input : List ℕ
  pub output : List ℕ

-- with this read and written after it
abbrev pub told_more : Told → List ℕ → List ℕ → Told
told_more told input output = record told { input = told.input ++ input; output = told.output ++ output }

-- this is told of the attempt of a number, which goes on
pub record TellsAt (host : List ℕ) (queue : Queue) (runs : List (Option Run)) (number : ℕ) (told : Told) : Type 0 where
  pub run : Run
  pub at : slot_at runs number ≡ Some run
  pub its_message : run.message ≡ told.message
  pub its_hop : run.hop ≡ told.hop
  pub its_places : run.places.items ≡ told.places
  pub message : Message
  pub found : message_of queue.messages told.message ≡ Some message
  pub envelope_is : message.accept.envelope ≡ told.envelope
  pub text_is : message.accept.stored_text ≡ told.text
  pub follows : Follows run.client host told.envelope told.text told.places told.input told.output

-- what is told is the attempt's course with these verdicts, at a loss of its connection or without one
abbrev pub IsItsCourse : List ℕ → Told → Bool → List Verdict → Type 0
IsItsCourse host told broken verdicts =
    IsCourse host told.envelope told.text told.places told.input broken told.output (Some verdicts)

-- the outcome at a time: exactly its places, each with its verdict
abbrev pub outcome_at : ℕ → Told → List Verdict → Outcome
outcome_at now told verdicts = outcome_of told.message now told.hop (rulings_of told.places verdicts)

-- after this many octets of a piece, and with this written, it has ended with these verdicts
pub record ReadsToEnd (host : List ℕ) (told : Told) (piece : List ℕ) : Type 0 where
  pub used : ℕ
  pub within : used ≤ length piece
  pub out : List ℕ
  pub verdicts : List Verdict
  pub course : IsItsCourse host (told_more told (take used piece) out) false verdicts

-- The words below are of a call at a time, for the attempt of a number, of which this is told; the records keep these
-- changes.
module _ {D : Type 0} (honest : Type 0) (words : DiskWords D) (reporter : Reporter) (now : ℕ) (changes : List Change)
    (number : ℕ) (told : Told) where
  -- it goes on after the whole piece, and nothing was added
  pub record AttemptGoesOn (piece : List ℕ) (old new : Kept D) (runs : List (Option Run)) (replied : Replied)
      : Type 0 where
    pub used : replied.used ≡ length piece
    pub same : new ≡ old
    pub tells : TellsAt reporter.host new.queue runs number (told_more told (take replied.used piece) replied.out.items)

  -- it has ended, and its outcome was added, with the report that is owed, as the change of this number, by four calls
  -- of the device
  pub record AttemptHasEnded (piece : List ℕ) (old new : Kept D) (runs : List (Option Run)) (replied : Replied)
      (change : ℕ) : Type 0 where
    pub verdicts : List Verdict
    pub course : IsItsCourse reporter.host (told_more told (take replied.used piece) replied.out.items) false verdicts
    pub adds : AddsOutcome honest words reporter changes (outcome_at now told verdicts) replied.used new change
    pub calls : Passes words 4 old.spool.disk new.spool.disk
    pub gone : slot_at runs number ≡ None

  abbrev pub Replies : List ℕ → Kept D → Kept D → List (Option Run) → Replied → Option ℕ → Type 0
  Replies piece old new runs replied None = AttemptGoesOn piece old new runs replied
  Replies piece old new runs replied (Some change) = AttemptHasEnded piece old new runs replied change

  -- a stop came while its outcome was added
  pub record CutsReply (piece : List ℕ) (new : Kept D) : Type 0 where
    pub ends : ReadsToEnd reporter.host told piece
    pub cuts : CutsOutcome honest words reporter changes (outcome_at now told ends.verdicts) ends.used new

  -- its connection was lost, and of that its outcome was added, by four calls of the device: each place may be tried
  -- again
  pub record IsLost (old new : Kept D) (runs : List (Option Run)) (change : ℕ) : Type 0 where
    pub course : IsItsCourse reporter.host told true (all_later told.places)
    pub adds : AddsOutcome honest words reporter changes (outcome_at now told (all_later told.places)) 0 new change
    pub calls : Passes words 4 old.spool.disk new.spool.disk
    pub gone : slot_at runs number ≡ None

  -- a stop came while that outcome was added
  pub record CutsLoss (new : Kept D) : Type 0 where
    pub course : IsItsCourse reporter.host told true (all_later told.places)
    pub cuts : CutsOutcome honest words reporter changes (outcome_at now told (all_later told.places)) 0 new

-- there is no room for the outcome with which it ends
pub record HasNoRoomAtEnd {D : Type 0} (reporter : Reporter) (now : ℕ) (told : Told) (piece : List ℕ) (old : Kept D)
    : Type 0 where
  pub ends : ReadsToEnd reporter.host told piece
  pub room : HasNoRoom reporter (outcome_at now told ends.verdicts) old

-- there is no room for the outcome of the loss of its connection
pub record HasNoRoomAtLoss {D : Type 0} (reporter : Reporter) (now : ℕ) (told : Told) (old : Kept D) : Type 0 where
  pub course : IsItsCourse reporter.host told true (all_later told.places)
  pub room : HasNoRoom reporter (outcome_at now told (all_later told.places)) old

-- The words below are of the same, whatever is told of the attempt.
module _ {D : Type 0} (words : DiskWords D) (reporter : Reporter) (now number : ℕ) where
  -- it has ended: of its message, hop and places an outcome was added, as the change of this number
  pub record EndsBy (before after : List (Option Run)) (old new : Kept D) (change : ℕ) : Type 0 where
    pub live : old.spool.live ≡ true
    pub run : Run
    pub was : slot_at before number ≡ Some run
    pub gone : slot_at after number ≡ None
    pub verdicts : List Verdict
    pub each : length verdicts ≡ length run.places.items
    pub grows : GrowsBy words reporter (outcome_of run.message now run.hop (rulings_of run.places.items verdicts)) old
        new change

  -- the change that a reply made, if it made one
  abbrev pub Makes : List (Option Run) → List (Option Run) → Kept D → Kept D → Option ℕ → Type 0
  Makes before after old new None = (old.spool.live ≡ true) × (slot_at before number ≢ None) × (new ≡ old)
  Makes before after old new (Some change) = EndsBy before after old new change

  -- it used octets of a piece of this length: all, unless it has ended
  pub record HasHeard (len : ℕ) (before after : List (Option Run)) (old new : Kept D) (replied : Replied) : Type 0
    where
      pub within : replied.used ≤ len
      pub whole : replied.change ≡ None → replied.used ≡ len
      pub makes : Makes before after old new replied.change

-- the attempt ran beside live records, and runs no more
pub record IsGone {D : Type 0} (number : ℕ) (before after : AttemptTable) (old : Kept D) : Type 0 where
  pub live : old.spool.live ≡ true
  pub was : slot_at before.runs number ≢ None
  pub gone : slot_at after.runs number ≡ None

-- what is left where a reply to the attempt of a number is refused, or its loss
abbrev pub RefusesToHear
    : {D : Type 0} → DiskWords D → ℕ → AttemptTable → AttemptTable → Kept D → Kept D → NodeFault → Type 0
RefusesToHear words number before after old new NoMemory = IsGone number before after old × (new ≡ old)
RefusesToHear words number before after old new Stopped =
    ((old.spool.live ≡ false) × (after ≡ before) × (new ≡ old))
    ⊎ (IsGone number before after old × IsStopped words 4 old new)
RefusesToHear words number before after old new Unknown =
    (old.spool.live ≡ true) × (slot_at before.runs number ≡ None) × (after ≡ before) × (new ≡ old)
RefusesToHear words number before after old new Full = IsGone number before after old × (new ≡ old)
RefusesToHear words number before after old new other = ⊥
