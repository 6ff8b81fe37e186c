-- An outcome in the list of changes: it is added with the report that is owed, in one change (RFC 3461, section 5.2).
use Rattle.std.specs.Prelude.{◌≡◌, ◌↔◌, ℕ, ◌+◌, ◌<◌, ◌≤◌, ◌^◌, true, List, [], length, MatchOption}
use Rattle.std.specs.List.{AllByRecursion}
use Rattle.relay_disk.specs.Device.{DiskWords}
use Rattle.relay_book.specs.declared.change.Change.{Change}
use Rattle.relay_book.specs.declared.change.Change.TheVariants as change
use Rattle.relay_book.specs.declared.change.Outcome.{Outcome}
use Rattle.relay_book.specs.declared.message.Message.{Message}
use Rattle.relay_book.specs.DueReport.{reports_delay}
use Rattle.relay_book.specs.Queue.{Queue, AllWithoutHop, AreRulings, FitsQueue, message_of}
use Rattle.relay_book.specs.Record.{AreOfVersion, IsRuling, MayBeHop, encode}
use Rattle.relay_records.specs.Records.{Adds, Cuts, Grows, IsStopped, Kept}
use Rattle.relay_records.specs.declared.fault.NodeFault.{NodeFault}
use Rattle.relay_records.specs.declared.fault.NodeFault.TheVariants.{NoMemory, Stopped, Full}
use Rattle.relay_report.specs.Report.{Reported, ReportedFrom, Reporter}

-- the outcome with this report
abbrev pub reported_as : Outcome → List ℕ → Change
reported_as outcome report = change.Outcome (record outcome { report = report })

-- the verdicts are of held places of the message, which rise, and a hop is named exactly if an attempt was made
pub record RulesOn (outcome : Outcome) (message : Message) : Type 0 where
  pub rulings : AreRulings message.places 0 outcome.rulings
  pub hop : (outcome.hop ≡ []) ↔ AllWithoutHop outcome.rulings

-- But for its report, the outcome fits the queue, and is not of the first version: its message is queued, and what it
-- says of it may be stored.
pub record MayCome (queue : Queue) (outcome : Outcome) : Type 0 where
  pub version : reports_delay outcome.version ≡ true
  pub number : outcome.message < 2 ^ 64
  pub message : MatchOption (message_of queue.messages outcome.message) ⊥ (RulesOn outcome)
  pub hop : MayBeHop outcome.hop
  pub some : 1 ≤ length outcome.rulings
  pub within : length outcome.rulings ≤ 100
  pub rulings : AllByRecursion IsRuling outcome.rulings
  pub verdicts : AreOfVersion outcome.version outcome.rulings

-- the change is the outcome with the report that is owed, and fits the queue
pub record IsReported (reporter : Reporter) (queue : Queue) (outcome : Outcome) (change : Change) : Type 0 where
  pub report : List ℕ
  pub change_is : change ≡ reported_as outcome report
  pub reported : ReportedFrom reporter queue change
  pub fits : FitsQueue queue change

-- what an outcome that was added, with the report that is owed, did to the records, whatever list they keep
pub record GrowsBy {D : Type 0} (words : DiskWords D) (reporter : Reporter) (outcome : Outcome) (old new : Kept D)
    (number : ℕ)
    : Type 0 where
  pub report : List ℕ
  pub reported : ReportedFrom reporter old.queue (reported_as outcome report)
  pub grows : Grows words old (reported_as outcome report) number new

module _ {D : Type 0} (honest : Type 0) (words : DiskWords D) (reporter : Reporter) (changes : List Change)
    (outcome : Outcome)
    (used : ℕ) where
  -- the outcome was added with the report that is owed, and is the change of this number
  pub record AddsOutcome (new : Kept D) (number : ℕ) : Type 0 where
    pub number_is : number ≡ length changes + 1
    pub report : List ℕ
    pub reported : Reported reporter changes (reported_as outcome report)
    pub adds : Adds honest words new changes (reported_as outcome report) used

  -- a stop came while the outcome was added, with that report
  pub record CutsOutcome (new : Kept D) : Type 0 where
    pub report : List ℕ
    pub reported : Reported reporter changes (reported_as outcome report)
    pub cuts : Cuts honest words new changes (reported_as outcome report) used

-- changes have no numbers any more, or the outcome, with the report that is owed, would bring the spool past 2^40
-- octets
pub data HasNoRoom {D : Type 0} (reporter : Reporter) (outcome : Outcome) (old : Kept D) : Type 0 where
  NoNumber : 2 ^ 62 < old.queue.next → HasNoRoom reporter outcome old
  TooLarge : (report : List ℕ) → ReportedFrom reporter old.queue (reported_as outcome report)
      → 2 ^ 40 < old.spool.size + 5 + length (encode (reported_as outcome report)) → HasNoRoom reporter outcome old

-- what is left where no outcome is added
abbrev pub RefusesOutcome : {D : Type 0} → DiskWords D → Reporter → Outcome → Kept D → Kept D → NodeFault → Type 0
RefusesOutcome words reporter outcome old new NoMemory = new ≡ old
RefusesOutcome words reporter outcome old new Stopped = IsStopped words 4 old new
RefusesOutcome words reporter outcome old new Full = (new ≡ old) × HasNoRoom reporter outcome old
RefusesOutcome words reporter outcome old new other = ⊥
