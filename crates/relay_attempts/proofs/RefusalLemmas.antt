-- What is left of an attempt where its outcome isn't added.
use Rattle.std.proofs.Common.{◌≡◌, ◌≢◌, inr, ℕ, List, Option, Result, None, Some, Err, ap, ◌∙◌, subst}
use Rattle.relay_disk.specs.Device.{DiskWords}
use Rattle.relay_book.specs.declared.change.Outcome.{Outcome}
use Rattle.relay_records.specs.declared.fault.NodeFault.{NodeFault}
use Rattle.relay_records.specs.declared.fault.NodeFault.TheVariants.{NoMemory, Stopped, Unknown, TooMany, NotDue, Busy, Open, Full, NoSecond}
use Rattle.relay_records.specs.Records.{Kept}
use Rattle.relay_report.specs.Report.{Reporter}
use Rattle.relay_attempts.specs.AddedOutcome.{HasNoRoom, RefusesOutcome}
use Rattle.relay_attempts.specs.declared.runs.Run.{Run}
use Rattle.relay_attempts.specs.Attempts.{AttemptTable}
use Rattle.relay_attempts.specs.Reply.{IsGone, RefusesToHear}

pub some_there : {A : Type 0} (found : Option A) (x : A) → found ≡ Some x → found ≢ None
some_there found x is none = absurd (cc)

-- one refusal is another's, whatever the answers' types
abbrev pub refused_with : (A : Type 0) → NodeFault → Result A NodeFault
refused_with A fault = Err fault

pub fault_is : (A : Type 0) (fault other : NodeFault) → refused_with A fault ≡ refused_with A other → fault ≡ other
fault_is A fault other is = cc

pub same_fault : (A B : Type 0) (fault other : NodeFault) → refused_with A fault ≡ refused_with A other
    → refused_with B fault ≡ refused_with B other
same_fault A B fault other is = ap (refused_with B) (fault_is A fault other is)

-- attempts are the same where all that callers see of them is
pub same_standing : (before after : AttemptTable) → after.runs ≡ before.runs → after.stranded ≡ before.stranded
    → after.room ≡ before.room → after ≡ before
same_standing before after runs stranded room =
    ap (λ (l : List (Option Run)). record { runs = l; stranded = after.stranded; room = after.room }) runs
    ∙ ap (λ (l : List ℕ). record { runs = before.runs; stranded = l; room = after.room }) stranded
    ∙ ap (λ n. record { runs = before.runs; stranded = before.stranded; room = n }) room

module _ {D : Type 0} (words : DiskWords D) (reporter : Reporter) (outcome : Outcome) (old new : Kept D) where
  -- where there is no room, it is for this outcome
  pub full_for_outcome : (fault : NodeFault) → fault ≡ Full → RefusesOutcome words reporter outcome old new fault
      → HasNoRoom reporter outcome old
  full_for_outcome fault is refused =
      let at_full : RefusesOutcome words reporter outcome old new Full =
      subst (λ (f : NodeFault). RefusesOutcome words reporter outcome old new f) is refused in
      at_full.1

  -- the queue is the same where its outcome isn't added
  pub queue_stays : (fault : NodeFault) → RefusesOutcome words reporter outcome old new fault → new.queue ≡ old.queue
  queue_stays NoMemory refused = ap (λ (r : Kept D). r.queue) refused
  queue_stays Stopped refused = refused.queue
  queue_stays Unknown refused = absurd refused
  queue_stays TooMany refused = absurd refused
  queue_stays NotDue refused = absurd refused
  queue_stays Busy refused = absurd refused
  queue_stays (Open cause) refused = absurd refused
  queue_stays NoSecond refused = absurd refused
  queue_stays Full refused = ap (λ (r : Kept D). r.queue) refused.0

  -- the attempt is gone where its outcome isn't added
  pub refused_to_hear : (number : ℕ) (before after : AttemptTable) (fault : NodeFault) → IsGone number before after old
      → RefusesOutcome words reporter outcome old new fault → RefusesToHear words number before after old new fault
  refused_to_hear number before after NoMemory gone refused = (gone, refused)
  refused_to_hear number before after Stopped gone refused = inr (gone, refused)
  refused_to_hear number before after Unknown gone refused = absurd refused
  refused_to_hear number before after TooMany gone refused = absurd refused
  refused_to_hear number before after NotDue gone refused = absurd refused
  refused_to_hear number before after Busy gone refused = absurd refused
  refused_to_hear number before after (Open cause) gone refused = absurd refused
  refused_to_hear number before after NoSecond gone refused = absurd refused
  refused_to_hear number before after Full gone refused = (gone, refused.0)
