-- An attempt hears octets of its next hop among the others.
use Rattle.std.proofs.Common.{◌≡◌, ◌∙◌, ◌<◌, ◌^◌, ℕ, ap, subst, false, length, take, List, None, Some, rules}
use Rattle.std.specs.Prelude.{slice_set}
use Rattle.relay_slots.specs.Slots.{slot_at}
use Rattle.relay_envelope.specs.HostName.{IsHostName}
use Rattle.relay_book.specs.Queue.{message_of}
use Rattle.relay_course.proofs.Theorems.{verdict_for_each_place}
use Rattle.relay_attempts.proofs.AmongLemmas.{dropped_serves, heard_serves}
use Rattle.relay_attempts.proofs.RefusalLemmas.{some_there}
use Rattle.relay_attempts.proofs.ReplyLemmas.{ended_may_come}
use Rattle.relay_attempts.proofs.ToldLemmas.{ended_course, ended_told, goes_on_told, going_follows, outcome_told, same_outcome, uses_all}
use Rattle.relay_attempts.proofs.attempts.Attempts.hear.Goals as goal

pub hear-requires : goal.hear-requires
hear-requires g c =
    let its : slot_at c.args.self.now.runs c.args.attempt ≡ Some c.in-Some.run' = search rules in
    let runs = c.requires.serves.2.runs c.args.attempt c.in-Some.run' its in
    some_there (message_of c.args.records.now.queue.messages c.in-Some.run'.message) runs.message runs.found

pub returns-in_default-hear-clause-serves : goal.returns-in_default-hear-clause-serves
returns-in_default-hear-clause-serves g c = λ host table serves.
    let its : slot_at c.args.self.now.runs c.args.attempt ≡ Some c.in-Some.run' = search rules in
    let gone : c.take.new.self ≡ slice_set c.args.self.now.runs c.args.attempt None = search rules in
    let known : c.self.inside.stranded.items ≡ c.args.self.now.stranded = search rules in
    dropped_serves host table c.args.records.now.queue c.args.attempt c.in-Some.run' c.args.self.now _ serves its gone known

pub returns-in_default-verdicts-clause-hears : goal.returns-in_default-verdicts-clause-hears
returns-in_default-verdicts-clause-hears g c = λ host table serves.
    let its : slot_at c.args.self.now.runs c.args.attempt ≡ Some c.in-Some.run' = search rules in
    let back : c.put.new.self ≡ slice_set (slice_set c.args.self.now.runs c.args.attempt None) c.args.attempt (Some c.hear.new.self) = search rules in
    let same = c.hear.ensures.same in
    let more : List ℕ = take c.in-Ok.driven.used c.args.piece.now in
    let out : List ℕ = c.in-Ok.driven.out.items in
    let runs = serves.runs c.args.attempt c.in-Some.run' its in
    record {
      was = some_there (slot_at c.args.self.now.runs c.args.attempt) c.in-Some.run' its;
      used =
          uses_all c.in-Some.run'.client c.hear.new.self.client c.in-Ok.driven (length c.args.piece.now) runs.follows.runs
          c.in-Ok.ensures.turns c.in_default-verdicts.is;
      tells = λ told tells.
          goes_on_told host c.args.records.now.queue c.args.self.now.runs c.args.attempt told c.in-Some.run' tells its
          c.hear.new.self c.put.new.self more out back same.0 same.1 same.2 c.in-Ok.driven.verdicts c.in_default-verdicts.is
          c.in-Ok.ensures.follows;
    }

pub returns-in_default-verdicts-clause-serves : goal.returns-in_default-verdicts-clause-serves
returns-in_default-verdicts-clause-serves g c = λ host table serves.
    let its : slot_at c.args.self.now.runs c.args.attempt ≡ Some c.in-Some.run' = search rules in
    let back : c.put.new.self ≡ slice_set (slice_set c.args.self.now.runs c.args.attempt None) c.args.attempt (Some c.hear.new.self) = search rules in
    let same = c.hear.ensures.same in
    let more : List ℕ = take c.in-Ok.driven.used c.args.piece.now in
    let out : List ℕ = c.in-Ok.driven.out.items in
    let known : c.self.inside.stranded.items ≡ c.args.self.now.stranded = search rules in
    heard_serves host table c.args.records.now.queue c.args.attempt c.in-Some.run'
    c.hear.new.self c.args.self.now _ serves its back same.0 same.1 same.2 more out
    (going_follows host table c.args.records.now.queue c.in-Some.run' c.hear.new.self.client
    more out c.in-Ok.driven.verdicts c.in_default-verdicts.is c.in-Ok.ensures.follows)
    known

pub returns-in_default-outcome-clause-serves : goal.returns-in_default-outcome-clause-serves
returns-in_default-outcome-clause-serves g c = λ host table serves.
    let its : slot_at c.args.self.now.runs c.args.attempt ≡ Some c.in-Some.run' = search rules in
    let gone : c.take.new.self ≡ slice_set c.args.self.now.runs c.args.attempt None = search rules in
    let known : c.self.inside.stranded.items ≡ c.args.self.now.stranded = search rules in
    dropped_serves host table c.args.records.now.queue c.args.attempt c.in-Some.run' c.args.self.now _ serves its gone known

pub returns-clause-hears : goal.returns-clause-hears
returns-clause-hears g c = λ host table serves.
    let its : slot_at c.args.self.now.runs c.args.attempt ≡ Some c.in-Some.run' = search rules in
    let gone : c.take.new.self ≡ slice_set c.args.self.now.runs c.args.attempt None = search rules in
    let same = c.hear.ensures.same in
    let more : List ℕ = take c.in-Ok.driven.used c.args.piece.now in
    let out : List ℕ = c.in-Ok.driven.out.items in
    let runs = serves.runs c.args.attempt c.in-Some.run' its in
    let course =
    ended_course host table c.args.records.now.queue c.in-Some.run' runs c.hear.new.self.client
    more out c.in-Ok.driven.verdicts c.in-Some-verdicts.verdicts c.in-Some-verdicts.is c.in-Ok.ensures.follows in
    let outcome =
    c.in-Ok-outcome.ensures.outcome
    ∙ same_outcome c.in-Some.run' c.hear.new.self c.args.now c.in-Some-verdicts.verdicts same.0 same.1 same.2 in
    record {
      run = c.in-Some.run';
      was = its;
      gone = gone;
      within = c.in-Ok.ensures.within;
      verdicts = c.in-Some-verdicts.verdicts;
      each =
          verdict_for_each_place host runs.message.accept.envelope runs.message.accept.stored_text
          c.in-Some.run'.places.items _ false _ c.in-Some-verdicts.verdicts course;
      outcome_is = outcome;
      comes =
          ended_may_come host table c.args.records.now.queue c.in-Some.run' runs c.args.now
          c.in-Some-verdicts.verdicts c.in-Ok-outcome.outcome outcome
          (subst (λ n. n < 2 ^ 64) same.0 c.in-Ok-outcome.ensures.number)
          (subst (λ (l : List ℕ). IsHostName l) same.1 c.in-Ok-outcome.ensures.hop)
          (λ message found. c.has_few_places.ensures message (ap (message_of c.args.records.now.queue.messages) same.0 ∙ found))
          runs.message.accept.envelope runs.message.accept.stored_text _ false _ course;
      course = λ told tells.
          ended_told host c.args.records.now.queue c.args.self.now.runs c.args.attempt told c.in-Some.run' tells its
          c.hear.new.self.client more out c.in-Ok.driven.verdicts c.in-Some-verdicts.verdicts c.in-Some-verdicts.is c.in-Ok.ensures.follows;
      of_told = λ told tells.
          outcome_told host c.args.records.now.queue c.args.self.now.runs c.args.attempt told c.in-Some.run' tells its
          c.hear.new.self c.args.now c.in-Some-verdicts.verdicts c.in-Ok-outcome.outcome c.in-Ok-outcome.ensures.outcome same.0 same.1 same.2;
    }

pub returns-clause-serves : goal.returns-clause-serves
returns-clause-serves g c = λ host table serves.
    let its : slot_at c.args.self.now.runs c.args.attempt ≡ Some c.in-Some.run' = search rules in
    let gone : c.take.new.self ≡ slice_set c.args.self.now.runs c.args.attempt None = search rules in
    let known : c.self.inside.stranded.items ≡ c.args.self.now.stranded = search rules in
    dropped_serves host table c.args.records.now.queue c.args.attempt c.in-Some.run' c.args.self.now _ serves its gone known
