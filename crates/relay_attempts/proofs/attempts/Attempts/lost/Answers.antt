use Rattle.std.proofs.Common.{◌≡◌, ◌∙◌, ap, refl, subst, true, List, None, Some, rules}
use Rattle.std.specs.Prelude.{slice_set}
use Rattle.relay_slots.specs.Slots.{slot_at}
use Rattle.relay_slots.proofs.Theorems.{taken_is_none}
use Rattle.relay_book.specs.declared.change.Outcome.{Outcome}
use Rattle.relay_book.specs.declared.change.Verdict.{Verdict}
use Rattle.relay_records.specs.declared.fault.NodeFault.TheVariants.{Full}
use Rattle.relay_report.specs.Report.{reporter_of}
use Rattle.relay_attempts.specs.AddedOutcome.{AddsOutcome, CutsOutcome, GrowsBy, HasNoRoom}
use Rattle.relay_course.proofs.Theorems.{verdict_for_each_place}
use Rattle.relay_attempts.specs.Hops.{stranded_of}
use Rattle.relay_attempts.specs.Reply.{IsItsCourse, outcome_at}
use Rattle.relay_attempts.proofs.AmongLemmas.{dropped_serves, ended_serves, refused_serves}
use Rattle.relay_attempts.proofs.RefusalLemmas.{fault_is, full_for_outcome, queue_stays, refused_to_hear, some_there}
use Rattle.relay_attempts.proofs.ReplyLemmas.{ended_may_come}
use Rattle.relay_attempts.proofs.ToldLemmas.{follows_told, loss_is_later, loss_told, outcome_told}
use Rattle.relay_attempts.proofs.attempts.Attempts.lost.Goals as goal

pub returns-in_default-broken-clause-serves : goal.returns-in_default-broken-clause-serves
returns-in_default-broken-clause-serves g c =
    let its : slot_at c.args.self.now.runs c.args.attempt ≡ Some c.in-Some.run' = search rules in
    let gone : c.take.new.self ≡ slice_set c.args.self.now.runs c.args.attempt None = search rules in
    let known : c.self.inside.stranded.items ≡ c.args.self.now.stranded = search rules in
    dropped_serves c.args.config.now.host c.args.config.now.routes c.args.records.now.queue c.args.attempt c.in-Some.run'
    c.args.self.now _ c.requires.serves its gone known

pub returns-in_default-outcome-clause-serves : goal.returns-in_default-outcome-clause-serves
returns-in_default-outcome-clause-serves g c =
    let its : slot_at c.args.self.now.runs c.args.attempt ≡ Some c.in-Some.run' = search rules in
    let gone : c.take.new.self ≡ slice_set c.args.self.now.runs c.args.attempt None = search rules in
    let known : c.self.inside.stranded.items ≡ c.args.self.now.stranded = search rules in
    dropped_serves c.args.config.now.host c.args.config.now.routes c.args.records.now.queue c.args.attempt c.in-Some.run'
    c.args.self.now _ c.requires.serves its gone known

pub conclude-requires-clause-comes : goal.conclude-requires-clause-comes
conclude-requires-clause-comes g c =
    let its : slot_at c.args.self.now.runs c.args.attempt ≡ Some c.in-Some.run' = search rules in
    let runs = c.requires.serves.runs c.args.attempt c.in-Some.run' its in
    let course =
    c.in-Ok.ensures.lost c.args.config.now.host runs.message.accept.stored_text c.in-Some.run'.places.items runs.input runs.output
    runs.message.accept.envelope runs.follows in
    ended_may_come c.args.config.now.host c.args.config.now.routes c.args.records.now.queue c.in-Some.run' runs c.args.now
    c.in-Ok.verdicts c.in-Ok-outcome.outcome c.in-Ok-outcome.ensures.outcome c.in-Ok-outcome.ensures.number
    c.in-Ok-outcome.ensures.hop c.has_few_places.ensures runs.message.accept.envelope runs.message.accept.stored_text runs.input
    true runs.output course

pub returns-in-Ok-conclude-clause-lost : goal.returns-in-Ok-conclude-clause-lost
returns-in-Ok-conclude-clause-lost g c = λ changes told keeps tells.
    let its : slot_at c.args.self.now.runs c.args.attempt ≡ Some c.in-Some.run' = search rules in
    let gone : c.conclude.new.self.runs ≡ slice_set c.args.self.now.runs c.args.attempt None = search rules in
    let loss : IsItsCourse c.args.config.now.host told true c.in-Ok.verdicts =
    c.in-Ok.ensures.lost c.args.config.now.host told.text told.places told.input told.output told.envelope
    (follows_told c.args.config.now.host c.args.records.now.queue c.args.self.now.runs c.args.attempt told c.in-Some.run' tells its) in
    let later =
    loss_is_later c.args.config.now.host c.args.records.now.queue c.args.self.now.runs c.args.attempt told c.in-Some.run' tells its
    c.in-Ok.verdicts loss in
    let outcome =
    outcome_told c.args.config.now.host c.args.records.now.queue c.args.self.now.runs c.args.attempt told c.in-Some.run' tells its
    c.in-Some.run' c.args.now c.in-Ok.verdicts c.in-Ok-outcome.outcome c.in-Ok-outcome.ensures.outcome refl refl refl
    ∙ ap (λ (vs : List Verdict). outcome_at c.args.now told vs) later in
    record {
      course = loss_told c.args.config.now.host c.args.records.now.queue c.args.self.now.runs c.args.attempt told c.in-Some.run' tells its;
      adds =
          subst
          (λ (o : Outcome). AddsOutcome g.D.Disk.honest g.D.Disk.words (reporter_of c.args.config.now) changes o 0 c.conclude.new.records c.in-Ok-conclude.number)
          outcome (c.in-Ok-conclude.ensures.ok changes keeps);
      calls = c.in-Ok-conclude.ensures.grows.grows.calls;
      gone = ap (λ l. slot_at l c.args.attempt) gone ∙ taken_is_none c.args.self.now.runs c.args.attempt;
    }

pub returns-in-Ok-conclude-clause-ends : goal.returns-in-Ok-conclude-clause-ends
returns-in-Ok-conclude-clause-ends g c =
    let its : slot_at c.args.self.now.runs c.args.attempt ≡ Some c.in-Some.run' = search rules in
    let gone : c.conclude.new.self.runs ≡ slice_set c.args.self.now.runs c.args.attempt None = search rules in
    let runs = c.requires.serves.runs c.args.attempt c.in-Some.run' its in
    let course =
    c.in-Ok.ensures.lost c.args.config.now.host runs.message.accept.stored_text c.in-Some.run'.places.items runs.input runs.output
    runs.message.accept.envelope runs.follows in
    record {
      live = search rules;
      run = c.in-Some.run';
      was = its;
      gone = ap (λ l. slot_at l c.args.attempt) gone ∙ taken_is_none c.args.self.now.runs c.args.attempt;
      verdicts = c.in-Ok.verdicts;
      each =
          verdict_for_each_place c.args.config.now.host runs.message.accept.envelope runs.message.accept.stored_text
          c.in-Some.run'.places.items runs.input true runs.output c.in-Ok.verdicts course;
      grows =
          subst
          (λ (o : Outcome). GrowsBy g.D.Disk.words (reporter_of c.args.config.now) o c.args.records.now c.conclude.new.records c.in-Ok-conclude.number)
          c.in-Ok-outcome.ensures.outcome c.in-Ok-conclude.ensures.grows;
    }

pub returns-in-Ok-conclude-clause-serves : goal.returns-in-Ok-conclude-clause-serves
returns-in-Ok-conclude-clause-serves g c =
    let its : slot_at c.args.self.now.runs c.args.attempt ≡ Some c.in-Some.run' = search rules in
    let gone : c.conclude.new.self.runs ≡ slice_set c.args.self.now.runs c.args.attempt None = search rules in
    let before : c.self.inside.stranded.items ≡ stranded_of c.args.config.now.routes c.args.records.now.queue.messages = search rules in
    let grows = c.in-Ok-conclude.ensures.grows in
    ended_serves c.args.config.now.host c.args.config.now.routes c.args.records.now.queue c.args.attempt c.in-Some.run'
    c.args.self.now c.conclude.new.self c.requires.serves its gone c.in-Ok-outcome.outcome grows.report c.args.now
    c.in-Ok.verdicts c.conclude.new.records.queue c.in-Ok-outcome.ensures.outcome grows.grows.queue
    (c.conclude.ensures.known before)

pub returns-in-Err-clause-cut : goal.returns-in-Err-clause-cut
returns-in-Err-clause-cut g c = λ changes told keeps tells is.
    let its : slot_at c.args.self.now.runs c.args.attempt ≡ Some c.in-Some.run' = search rules in
    let loss : IsItsCourse c.args.config.now.host told true c.in-Ok.verdicts =
    c.in-Ok.ensures.lost c.args.config.now.host told.text told.places told.input told.output told.envelope
    (follows_told c.args.config.now.host c.args.records.now.queue c.args.self.now.runs c.args.attempt told c.in-Some.run' tells its) in
    let later =
    loss_is_later c.args.config.now.host c.args.records.now.queue c.args.self.now.runs c.args.attempt told c.in-Some.run' tells its
    c.in-Ok.verdicts loss in
    let outcome =
    outcome_told c.args.config.now.host c.args.records.now.queue c.args.self.now.runs c.args.attempt told c.in-Some.run' tells its
    c.in-Some.run' c.args.now c.in-Ok.verdicts c.in-Ok-outcome.outcome c.in-Ok-outcome.ensures.outcome refl refl refl
    ∙ ap (λ (vs : List Verdict). outcome_at c.args.now told vs) later in
    record {
      course = loss_told c.args.config.now.host c.args.records.now.queue c.args.self.now.runs c.args.attempt told c.in-Some.run' tells its;
      cuts =
          subst
          (λ (o : Outcome). CutsOutcome g.D.Disk.honest g.D.Disk.words (reporter_of c.args.config.now) changes o 0 c.conclude.new.records)
          outcome (c.in-Err.ensures.cut changes keeps is);
    }

pub returns-in-Err-clause-full : goal.returns-in-Err-clause-full
returns-in-Err-clause-full g c = λ told tells is.
    let its : slot_at c.args.self.now.runs c.args.attempt ≡ Some c.in-Some.run' = search rules in
    let loss : IsItsCourse c.args.config.now.host told true c.in-Ok.verdicts =
    c.in-Ok.ensures.lost c.args.config.now.host told.text told.places told.input told.output told.envelope
    (follows_told c.args.config.now.host c.args.records.now.queue c.args.self.now.runs c.args.attempt told c.in-Some.run' tells its) in
    let later =
    loss_is_later c.args.config.now.host c.args.records.now.queue c.args.self.now.runs c.args.attempt told c.in-Some.run' tells its
    c.in-Ok.verdicts loss in
    let outcome =
    outcome_told c.args.config.now.host c.args.records.now.queue c.args.self.now.runs c.args.attempt told c.in-Some.run' tells its
    c.in-Some.run' c.args.now c.in-Ok.verdicts c.in-Ok-outcome.outcome c.in-Ok-outcome.ensures.outcome refl refl refl
    ∙ ap (λ (vs : List Verdict). outcome_at c.args.now told vs) later in
    record {
      course = loss_told c.args.config.now.host c.args.records.now.queue c.args.self.now.runs c.args.attempt told c.in-Some.run' tells its;
      room =
          subst (λ (o : Outcome). HasNoRoom (reporter_of c.args.config.now) o c.args.records.now) outcome
          (full_for_outcome g.D.Disk.words (reporter_of c.args.config.now) c.in-Ok-outcome.outcome c.args.records.now c.conclude.new.records
          c.in-Err.fault (fault_is _ c.in-Err.fault Full is) c.in-Err.ensures.refused);
    }

pub returns-in-Err-clause-refused : goal.returns-in-Err-clause-refused
returns-in-Err-clause-refused g c =
    let its : slot_at c.args.self.now.runs c.args.attempt ≡ Some c.in-Some.run' = search rules in
    let gone : c.conclude.new.self.runs ≡ slice_set c.args.self.now.runs c.args.attempt None = search rules in
    refused_to_hear g.D.Disk.words (reporter_of c.args.config.now) c.in-Ok-outcome.outcome c.args.records.now c.conclude.new.records
    c.args.attempt c.args.self.now c.conclude.new.self c.in-Err.fault
    (record {
      live = search rules;
      was = some_there (slot_at c.args.self.now.runs c.args.attempt) c.in-Some.run' its;
      gone = ap (λ l. slot_at l c.args.attempt) gone ∙ taken_is_none c.args.self.now.runs c.args.attempt;
    })
    c.in-Err.ensures.refused

pub returns-in-Err-clause-serves : goal.returns-in-Err-clause-serves
returns-in-Err-clause-serves g c =
    let its : slot_at c.args.self.now.runs c.args.attempt ≡ Some c.in-Some.run' = search rules in
    let gone : c.conclude.new.self.runs ≡ slice_set c.args.self.now.runs c.args.attempt None = search rules in
    let before : c.self.inside.stranded.items ≡ stranded_of c.args.config.now.routes c.args.records.now.queue.messages = search rules in
    refused_serves c.args.config.now.host c.args.config.now.routes c.args.records.now.queue c.args.attempt c.in-Some.run'
    c.args.self.now c.conclude.new.self c.requires.serves its gone c.conclude.new.records.queue
    (queue_stays g.D.Disk.words (reporter_of c.args.config.now) c.in-Ok-outcome.outcome c.args.records.now c.conclude.new.records
    c.in-Err.fault c.in-Err.ensures.refused)
    (c.conclude.ensures.known before)
