-- What octets of a next hop make of an attempt, before its outcome is recorded.
use Rattle.std.specs.Prelude.{◌≡◌, ◌≢◌, ℕ, ◌≤◌, false, List, length, take, Option, None, Some, slice_set}
use Rattle.relay_slots.specs.Slots.{slot_at}
use Rattle.relay_book.specs.declared.change.Outcome.{Outcome}
use Rattle.relay_book.specs.declared.change.Verdict.{Verdict}
use Rattle.relay_book.specs.Queue.{Queue}
use Rattle.relay_records.specs.declared.fault.NodeFault.{NodeFault}
use Rattle.relay_records.specs.declared.fault.NodeFault.TheVariants.{NoMemory, Unknown}
use Rattle.relay_attempts.specs.declared.hear.Hearing.{Hearing}
use Rattle.relay_attempts.specs.declared.runs.Run.{Run}
use Rattle.relay_attempts.specs.AddedOutcome.{MayCome}
use Rattle.relay_attempts.specs.Attempts.{AttemptTable}
use Rattle.relay_attempts.specs.Outcomes.{outcome_of, rulings_of}
use Rattle.relay_attempts.specs.Reply.{IsItsCourse, TellsAt, Told, outcome_at, told_more}

-- The words below are of the attempt of a number, which at a time has heard a piece, beside this queue.
module _ (host : List ℕ) (queue : Queue) (now number : ℕ) (piece : List ℕ) (old new : AttemptTable)
    (hearing : Hearing) where
  -- what was told of it, with what was used of the piece and what goes to the next hop
  abbrev pub told_later : Told → Told
  told_later told = told_more told (take hearing.used piece) hearing.out.items

  -- it goes on after the whole piece
  pub record GoesOn : Type 0 where
    pub was : slot_at old.runs number ≢ None
    pub used : hearing.used ≡ length piece
    pub tells : (told : Told) → TellsAt host queue old.runs number told
        → TellsAt host queue new.runs number (told_later told)

  -- it has ended with this outcome, which fits the queue but for its report, and is gone
  pub record HasEnded (outcome : Outcome) : Type 0 where
    pub run : Run
    pub was : slot_at old.runs number ≡ Some run
    pub gone : new.runs ≡ slice_set old.runs number None
    pub within : hearing.used ≤ length piece
    pub verdicts : List Verdict
    pub each : length verdicts ≡ length run.places.items
    pub outcome_is : outcome ≡ outcome_of run.message now run.hop (rulings_of run.places.items verdicts)
    pub comes : MayCome queue outcome
    pub course : (told : Told) → TellsAt host queue old.runs number told
        → IsItsCourse host (told_later told) false verdicts
    pub of_told : (told : Told) → TellsAt host queue old.runs number told → outcome ≡ outcome_at now told verdicts

  abbrev pub GoesOnOrHasEnded : Option Outcome → Type 0
  GoesOnOrHasEnded None = GoesOn
  GoesOnOrHasEnded (Some outcome) = HasEnded outcome

-- where it heard nothing, it is gone for lack of memory, or there was none
abbrev pub HearsNothing : ℕ → AttemptTable → AttemptTable → NodeFault → Type 0
HearsNothing number old new NoMemory = (slot_at old.runs number ≢ None) × (slot_at new.runs number ≡ None)
HearsNothing number old new Unknown = (slot_at old.runs number ≡ None) × (new ≡ old)
HearsNothing number old new other = ⊥
