-- An outcome that is staged with the report that is due of it, and what is left where it isn't.
use Rattle.std.proofs.Common.{◌≡◌, ◌≢◌, ◌↔◌, ◌⊎◌, inl, inr, ℕ, ◌+◌, ◌<◌, ◌^◌, List, [], ◌∷◌, ◌++◌, length, None, Result, Ok, Err, IfErr, IfOk, OnOk, refl, ap, ◌∙◌, subst}
use Rattle.relay_disk.specs.Device.{DiskWords}
use Rattle.relay_slots.specs.Slots.{slot_at}
use Rattle.relay_spool.specs.Image.{room_of}
use Rattle.relay_book.specs.declared.change.Change.{Change}
use Rattle.relay_book.specs.declared.change.Outcome.{Outcome}
use Rattle.relay_book.specs.Queue.{FitsQueue, Queue}
use Rattle.relay_book.specs.Record.{encode}
use Rattle.relay_records.specs.declared.fault.NodeFault.{NodeFault}
use Rattle.relay_records.specs.declared.fault.NodeFault.TheVariants.{NoMemory, Stopped, Unknown, TooMany, NotDue, Busy, Open, Full, NoSecond}
use Rattle.relay_records.specs.Records.{Kept}
use Rattle.relay_records.specs.Staged.{Awaits, RefusesToStage, Row, Stages}
use Rattle.relay_report.specs.Report.{ReportedFrom, Reporter}
use Rattle.relay_attempts.specs.AddedOutcome.{IsReported, reported_as}
use Rattle.relay_attempts.specs.Attempts.{AttemptTable}
use Rattle.relay_attempts.specs.Staging.{GrowsRowBy, HasNoRoomAfter, NoNumber, RefusesToHearAfter, RefusesToStageOutcome, StagesOutcome, TooLarge}

module _ {D : Type 0} (reporter : Reporter) (outcome : Outcome) (change : Change) (old : Kept D)
    (is : IsReported reporter old.queue outcome change) where
  reported_from : ReportedFrom reporter old.queue (reported_as outcome is.report)
  reported_from = subst (ReportedFrom reporter old.queue) is.change_is is.reported

  -- it is staged after the changes that records await
  pub stages_outcome : (honest : Type 0) (words : DiskWords D) (changes pending : List Change) (row : Row)
      (used : ℕ) (new : Kept D) (left : Row) (number : ℕ) → Awaits honest words old changes pending row
      → old.queue.next ≡ length changes + length pending + 1 → Stages old new row left change used number
      → Awaits honest words new changes (pending ++ change ∷ []) left
      → StagesOutcome honest words reporter changes pending row outcome used new left number
  stages_outcome honest words changes pending row used new left number awaits next stages more = record {
    number_is = stages.number_is ∙ next;
    report = is.report;
    reported =
        subst (λ (q : Queue). ReportedFrom reporter q (reported_as outcome is.report)) awaits.queue reported_from;
    awaits = subst (λ (c : Change). Awaits honest words new changes (pending ++ c ∷ []) left) is.change_is more;
    note = stages.note;
    noted = stages.notes;
    used_is = stages.notes_next.used_is;
  }

  -- the same, where it was staged
  pub stages_where : (honest : Type 0) (words : DiskWords D) (changes pending : List Change) (row : Row) (used : ℕ)
      (new : Kept D) (left : Row) (result : Result ℕ NodeFault) → Awaits honest words old changes pending row
      → old.queue.next ≡ length changes + length pending + 1 → IfOk result (Stages old new row left change used)
      → OnOk result (Awaits honest words new changes (pending ++ change ∷ []) left)
      → IfOk result (StagesOutcome honest words reporter changes pending row outcome used new left)
  stages_where honest words changes pending row used new left (Ok number) awaits next stages more =
      stages_outcome honest words changes pending row used new left number awaits next stages more
  stages_where honest words changes pending row used new left (Err fault) awaits next stages more = tt

  -- whatever the records keep
  pub grows_row : (used : ℕ) (new : Kept D) (row left : Row) (number : ℕ) → Stages old new row left change used number
      → GrowsRowBy reporter outcome used old new row left number
  grows_row used new row left number stages = record {
    report = is.report;
    reported = reported_from;
    fits = subst (FitsQueue old.queue) is.change_is is.fits;
    stages = subst (λ (c : Change). Stages old new row left c used number) is.change_is stages;
  }

  -- there is no room for the outcome where there is none for its record
  no_room_after : (octets : List ℕ) (row : Row) → octets ≡ encode change
      → (2 ^ 62 < old.queue.next) ⊎ (2 ^ 40 < old.spool.size + room_of row.bodies + 5 + length octets)
      → HasNoRoomAfter reporter outcome old row
  no_room_after octets row octets_are (inl many) = NoNumber many
  no_room_after octets row octets_are (inr large) =
      TooLarge is.report reported_from
      (subst (λ (text : List ℕ). 2 ^ 40 < old.spool.size + room_of row.bodies + 5 + length text)
      (octets_are ∙ ap encode is.change_is) large)

  -- what is left where a change isn't staged is left where the outcome isn't
  pub refused_staged : (octets : List ℕ) (new : Kept D) (row left : Row) (result : Result ℕ NodeFault)
      → octets ≡ encode change
      → (result ≡ Err Full)
      ↔ ((2 ^ 62 < old.queue.next) ⊎ (2 ^ 40 < old.spool.size + room_of row.bodies + 5 + length octets))
      → IfErr result (RefusesToStage old new row left) → IfErr result (RefusesToStageOutcome reporter outcome old new row left)
  refused_staged octets new row left (Ok number) octets_are full refused = tt
  refused_staged octets new row left (Err NoMemory) octets_are full refused = refused
  refused_staged octets new row left (Err Stopped) octets_are full refused = refused
  refused_staged octets new row left (Err Unknown) octets_are full refused = refused
  refused_staged octets new row left (Err TooMany) octets_are full refused = refused
  refused_staged octets new row left (Err NotDue) octets_are full refused = refused
  refused_staged octets new row left (Err Busy) octets_are full refused = refused
  refused_staged octets new row left (Err (Open cause)) octets_are full refused = refused
  refused_staged octets new row left (Err NoSecond) octets_are full refused = refused
  refused_staged octets new row left (Err Full) octets_are full refused =
      (refused.0, refused.1, no_room_after octets row octets_are (full.0 refl))

module _ {D : Type 0} (reporter : Reporter) (outcome : Outcome) (old new : Kept D) (row left : Row) where
  -- where there is no room, it is for this outcome
  pub full_for_staged : (fault : NodeFault) → fault ≡ Full
      → RefusesToStageOutcome reporter outcome old new row left fault → HasNoRoomAfter reporter outcome old row
  full_for_staged fault is refused =
      let at_full : RefusesToStageOutcome reporter outcome old new row left Full =
      subst (λ (f : NodeFault). RefusesToStageOutcome reporter outcome old new row left f) is refused in
      at_full.2

  -- the queue is the same where it isn't staged
  pub queue_unstaged : (fault : NodeFault) → RefusesToStageOutcome reporter outcome old new row left fault
      → new.queue ≡ old.queue
  queue_unstaged NoMemory refused = ap (λ (r : Kept D). r.queue) refused.0
  queue_unstaged Stopped refused = absurd refused
  queue_unstaged Unknown refused = absurd refused
  queue_unstaged TooMany refused = absurd refused
  queue_unstaged NotDue refused = absurd refused
  queue_unstaged Busy refused = absurd refused
  queue_unstaged (Open cause) refused = absurd refused
  queue_unstaged NoSecond refused = absurd refused
  queue_unstaged Full refused = ap (λ (r : Kept D). r.queue) refused.0

  -- the attempt is gone where it isn't staged
  pub refused_after : (number : ℕ) (before after : AttemptTable) (fault : NodeFault)
      → slot_at before.runs number ≢ None → slot_at after.runs number ≡ None
      → RefusesToStageOutcome reporter outcome old new row left fault
      → RefusesToHearAfter number before after old new row left fault
  refused_after number before after NoMemory was gone refused = (was, gone, refused.0, refused.1)
  refused_after number before after Stopped was gone refused = absurd refused
  refused_after number before after Unknown was gone refused = absurd refused
  refused_after number before after TooMany was gone refused = absurd refused
  refused_after number before after NotDue was gone refused = absurd refused
  refused_after number before after Busy was gone refused = absurd refused
  refused_after number before after (Open cause) was gone refused = absurd refused
  refused_after number before after NoSecond was gone refused = absurd refused
  refused_after number before after Full was gone refused = (was, gone, refused.0, refused.1)
