-- Relaying mail: what the due works do, one after another (RFC 5321, sections 4.5.4.1 and 6.1).
use Rattle.std.specs.Prelude.{◌≡◌, ◌≢◌, ◌⊎◌, ℕ, Bool, false, List, [], ◌∷◌, ◌++◌}
use Rattle.std.specs.Prelude.{Option, Some, Result, Ok, Err, IfErr, MatchResult}
use Rattle.relay_disk.specs.Device.{DiskWords}
use Rattle.relay_slots.specs.Slots.{slot_at}
use Rattle.relay_book.specs.declared.change.Change.{Change}
use Rattle.relay_book.specs.declared.change.Outcome.{Outcome}
use Rattle.relay_book.specs.declared.change.Verdict.{Verdict}
use Rattle.relay_book.specs.declared.message.Message.{Message}
use Rattle.relay_book.specs.Queue.{message_of}
use Rattle.relay_records.specs.Records.{Keeps, Kept}
use Rattle.relay_report.specs.Report.{Reported, Reporter, reporter_of}
use Rattle.relay_attempts.specs.AddedOutcome.{reported_as}
use Rattle.relay_course.specs.Course.{IsCourse}
use Rattle.relay_attempts.specs.declared.start.Started.{Started}
use Rattle.relay_attempts.specs.declared.runs.Run.{Run}
use Rattle.relay_attempts.specs.declared.work.Work.{Work}
use Rattle.relay_attempts.specs.declared.work.Work.TheVariants.{NoRoute, Try}
use Rattle.relay_attempts.specs.Outcomes.{unroutable}
use Rattle.relay_attempts.specs.Reply.{Told, outcome_at}
use Rattle.relay_links.specs.declared.fault.LinkFault.{LinkFault}
use Rattle.relay_links.specs.declared.fault.LinkFault.TheVariants.{Input, Output, NoMemory, Full, Device}
use Rattle.relay_links.specs.declared.push.Pushed.{Pushed}
use Rattle.relay_node.specs.Attempts.{Begins, begun_with}
use Rattle.relay_node.specs.Node.{NodeState}

-- the configuration, the sessions and the running attempts are the same
pub record StaysBeside {D : Type 0} (old new : NodeState D) : Type 0 where
  pub config : new.config ≡ old.config
  pub seats : new.seats ≡ old.seats
  pub attempts : (number : ℕ) → slot_at new.attempts number ≡ slot_at old.attempts number

-- exactly one change was added: the outcome, with the report that is owed
pub record Concludes (reporter : Reporter) (changes later : List Change) (outcome : Outcome) : Type 0 where
  pub report : List ℕ
  pub reported : Reported reporter changes (reported_as outcome report)
  pub later_is : later ≡ changes ++ reported_as outcome report ∷ []

-- the node is the same, except for its note
abbrev pub IsSameButNote : {D : Type 0} → NodeState D → NodeState D → Type 0
IsSameButNote old new = new ≡ record old { records = record old.records { noted = new.records.noted } }

-- a link's fault ends the push exactly if it is the device's
abbrev pub TellsDevice : {X Y : Type 0} → Result Pushed LinkFault → Result X Y → Type 0
TellsDevice pushed result = IfErr pushed (λ fault. MatchResult result (λ _. fault ≢ Device) (λ _. fault ≡ Device))

-- An attempt has ended: what was read and written is its course with these verdicts, with or without a loss, and
-- exactly one change was added, the outcome with these verdicts at this time.
pub record Ends (reporter : Reporter) (changes later : List Change) (told : Told) (at : ℕ) : Type 0 where
  pub verdicts : List Verdict
  pub lost : Bool
  pub input : List ℕ
  pub output : List ℕ
  pub course : IsCourse reporter.host told.envelope told.text told.places input lost output (Some verdicts)
  pub concludes : Concludes reporter changes later (outcome_at at told verdicts)

-- The effect of running an attempt with this history over a link, for a node that kept these changes.
module _ {D : Type 0} (honest : Type 0) (words : DiskWords D) (reporter : Reporter) (changes : List Change)
    (told : Told) where
  -- it has ended
  pub record HasEnded (records : Kept D) : Type 0 where
    pub later : List Change
    pub at : ℕ
    pub ends : Ends reporter changes later told at
    pub keeps : Keeps honest words records later

  -- if the link failed, the attempt is gone without an outcome, for lack of memory or room, or the device failed
  abbrev pub HandsOn : Kept D → Result Pushed LinkFault → Type 0
  HandsOn records (Ok pushed) = HasEnded records
  HandsOn records (Err Input) = ⊥
  HandsOn records (Err Output) = ⊥
  HandsOn records (Err NoMemory) = Keeps honest words records changes
  HandsOn records (Err Full) = Keeps honest words records changes
  HandsOn records (Err Device) = records.spool.live ≡ false

-- Below: works at a time, of a node with these changes before and the later ones after.
module _ {D : Type 0} (honest : Type 0) (words : DiskWords D) (now : ℕ) where
  -- exactly the held places of the message that have no hop have ended
  pub record GivesUp (number : ℕ) (changes later : List Change) (old : NodeState D) : Type 0 where
    pub message : Message
    pub found : message_of old.records.queue.messages number ≡ Some message
    pub concludes : Concludes (reporter_of old.config) changes later (unroutable old.config.routes number now message)

  -- an attempt for the message's places that are due and go to the hop has begun, and it has ended or is gone without
  -- an outcome
  pub record Tries (number : ℕ) (hop : List ℕ) (changes later : List Change) (old : NodeState D) : Type 0 where
    pub begun : List (Option Run)
    pub started : Started
    pub begins : Begins old.config changes number hop now old.attempts begun started
    pub at : ℕ
    pub ended : Ends (reporter_of old.config) changes later (begun_with number hop started.places.items begins.message)
        at
        ⊎ (later ≡ changes)

  -- the work was done once; or it was left, for lack of memory or room, or because it isn't due any more
  abbrev pub Does : Work → List Change → List Change → NodeState D → Type 0
  Does (NoRoute number) changes later old = GivesUp number changes later old ⊎ (later ≡ changes)
  Does (Try number hop) changes later old = Tries number hop changes later old ⊎ (later ≡ changes)

  -- this work was done, and nothing else: the node keeps the later changes, and has no more attempts than before
  pub record DoesOne (work : Work) (changes later : List Change) (old new : NodeState D) : Type 0 where
    pub does : Does work changes later old
    pub keeps : Keeps honest words new.records later
    pub beside : StaysBeside old new

  abbrev pub IsDone : Work → List Change → NodeState D → NodeState D → Type 0
  IsDone work changes old new = (later : List Change) × DoesOne work changes later old new

  -- one work was done; a fault means that it was, or that the device failed
  abbrev pub WorksTo : {X Y : Type 0} → Work → List Change → NodeState D → NodeState D → Result X Y → Type 0
  WorksTo work changes old new result =
      MatchResult result (λ _. IsDone work changes old new)
      (λ _. IsDone work changes old new ⊎ (new.records.spool.live ≡ false))

  -- each work of the list was done, in order, each from the state that the one before has left
  abbrev pub DoesEach : List Work → List Change → NodeState D → List Change → NodeState D → Type 0
  DoesEach [] changes old later new = (later ≡ changes) × (new ≡ old)
  DoesEach (work ∷ works) changes old later new =
      (between : List Change) × (middle : NodeState D) × DoesOne work changes between old middle
      × DoesEach works between middle later new

  -- some of the works were done, from the first on; then a line couldn't be written, or the device failed
  pub record DoesSome (works : List Work) (changes : List Change) (old new : NodeState D) : Type 0 where
    pub front : List Work
    pub rest : List Work
    pub works_are : works ≡ front ++ rest
    pub later : List Change
    pub middle : NodeState D
    pub each : DoesEach front changes old later middle
    pub ends : (new ≡ middle) ⊎ (new.records.spool.live ≡ false)

  abbrev pub WorksOff : {X Y : Type 0} → List Work → List Change → NodeState D → NodeState D → Result X Y → Type 0
  WorksOff works changes old new result =
      MatchResult result (λ _. (later : List Change) × DoesEach works changes old later new)
      (λ _. DoesSome works changes old new)
