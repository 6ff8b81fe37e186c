-- An attempt that has ended leaves its outcome after a row.
use Rattle.std.proofs.Common.{◌∙◌, refl, subst, arith}
use Rattle.relay_book.specs.declared.change.Outcome.{Outcome}
use Rattle.relay_records.specs.declared.fault.NodeFault.TheVariants.{Full}
use Rattle.relay_report.specs.Report.{reporter_of}
use Rattle.relay_attempts.specs.Staging.{GrowsRowBy, HasNoRoomAfter, StagesOutcome}
use Rattle.relay_attempts.proofs.AmongLemmas.{ended_serves, refused_serves}
use Rattle.relay_attempts.proofs.HearLemmas.{had_ended, is_gone, went_on}
use Rattle.relay_attempts.proofs.RefusalLemmas.{fault_is, some_there}
use Rattle.relay_attempts.proofs.StagedLemmas.{full_for_staged, queue_unstaged, refused_after}
use Rattle.relay_attempts.proofs.attempts.Attempts.reply_into.Goals as goal

pub returns-in_default-clause-replies : goal.returns-in_default-clause-replies
returns-in_default-clause-replies g c = λ changes pending told awaits tells.
    let on = went_on c.args.config.now.host c.args.records.now.queue c.args.now c.args.attempt c.args.piece.now
    c.args.self.now c.hear.new.self c.in_ok-used.field-0 c.in_ok-used.field-0.outcome c.in_default.is
    (c.in_ok-used.ensures.hears c.args.config.now.host c.args.config.now.routes c.requires.serves) in
    record { used = on.used; same = refl; row_is = refl; tells = on.tells told tells }

pub returns-in_default-clause-heard : goal.returns-in_default-clause-heard
returns-in_default-clause-heard g c =
    let on = went_on c.args.config.now.host c.args.records.now.queue c.args.now c.args.attempt c.args.piece.now
    c.args.self.now c.hear.new.self c.in_ok-used.field-0 c.in_ok-used.field-0.outcome c.in_default.is
    (c.in_ok-used.ensures.hears c.args.config.now.host c.args.config.now.routes c.requires.serves) in
    let used = on.used in
    record { within = omega (arith, used); whole = λ _. used; makes = (on.was, refl, refl) }

pub returns-in_default-clause-serves : goal.returns-in_default-clause-serves
returns-in_default-clause-serves g c =
    c.hear.ensures.serves c.args.config.now.host c.args.config.now.routes c.requires.serves

pub conclude_into-requires : goal.conclude_into-requires
conclude_into-requires g c = record {
  comes =
      (had_ended c.args.config.now.host c.args.records.now.queue c.args.now c.args.attempt c.args.piece.now
      c.args.self.now c.hear.new.self c.in_ok-used.field-0 c.in_ok-used.field-0.outcome c.in-Some.outcome c.in-Some.is
      (c.in_ok-used.ensures.hears c.args.config.now.host c.args.config.now.routes c.requires.serves)).comes;
}

pub returns-in-Ok-clause-replies : goal.returns-in-Ok-clause-replies
returns-in-Ok-clause-replies g c = λ changes pending told awaits tells.
    let ended = had_ended c.args.config.now.host c.args.records.now.queue c.args.now c.args.attempt c.args.piece.now
    c.args.self.now c.hear.new.self c.in_ok-used.field-0 c.in_ok-used.field-0.outcome c.in-Some.outcome c.in-Some.is
    (c.in_ok-used.ensures.hears c.args.config.now.host c.args.config.now.routes c.requires.serves) in
    record {
      verdicts = ended.verdicts;
      course = ended.course told tells;
      stages =
          subst
          (λ (o : Outcome). StagesOutcome g.D.Disk.honest g.D.Disk.words (reporter_of c.args.config.now) changes pending c.args.row.now o c.in_ok-used.field-0.used c.conclude_into.new.records c.conclude_into.new.row c.in-Ok.number)
          (ended.of_told told tells) (c.in-Ok.ensures.stages changes pending awaits);
      gone = is_gone c.args.self.now.runs c.conclude_into.new.self.runs c.args.attempt (c.conclude_into.ensures.runs ∙ ended.gone);
    }

pub returns-in-Ok-clause-heard : goal.returns-in-Ok-clause-heard
returns-in-Ok-clause-heard g c =
    let ended = had_ended c.args.config.now.host c.args.records.now.queue c.args.now c.args.attempt c.args.piece.now
    c.args.self.now c.hear.new.self c.in_ok-used.field-0 c.in_ok-used.field-0.outcome c.in-Some.outcome c.in-Some.is
    (c.in_ok-used.ensures.hears c.args.config.now.host c.args.config.now.routes c.requires.serves) in
    record {
      within = ended.within;
      whole = λ none. absurd (cc);
      makes = record {
        run = ended.run;
        was = ended.was;
        gone = is_gone c.args.self.now.runs c.conclude_into.new.self.runs c.args.attempt (c.conclude_into.ensures.runs ∙ ended.gone);
        verdicts = ended.verdicts;
        each = ended.each;
        grows =
            subst
            (λ (o : Outcome). GrowsRowBy (reporter_of c.args.config.now) o c.in_ok-used.field-0.used c.args.records.now c.conclude_into.new.records c.args.row.now c.conclude_into.new.row c.in-Ok.number)
            ended.outcome_is c.in-Ok.ensures.grows;
      };
    }

pub returns-in-Ok-clause-serves : goal.returns-in-Ok-clause-serves
returns-in-Ok-clause-serves g c =
    let ended = had_ended c.args.config.now.host c.args.records.now.queue c.args.now c.args.attempt c.args.piece.now
    c.args.self.now c.hear.new.self c.in_ok-used.field-0 c.in_ok-used.field-0.outcome c.in-Some.outcome c.in-Some.is
    (c.in_ok-used.ensures.hears c.args.config.now.host c.args.config.now.routes c.requires.serves) in
    let grows = c.in-Ok.ensures.grows in
    ended_serves c.args.config.now.host c.args.config.now.routes c.args.records.now.queue c.args.attempt ended.run
    c.args.self.now c.conclude_into.new.self c.requires.serves ended.was (c.conclude_into.ensures.runs ∙ ended.gone) c.in-Some.outcome
    grows.report c.args.now ended.verdicts c.conclude_into.new.records.queue ended.outcome_is grows.stages.queue
    (c.conclude_into.ensures.known (c.hear.ensures.stranded ∙ c.requires.serves.stranded))

pub returns-in-Err-clause-full : goal.returns-in-Err-clause-full
returns-in-Err-clause-full g c = λ told tells is.
    let ended = had_ended c.args.config.now.host c.args.records.now.queue c.args.now c.args.attempt c.args.piece.now
    c.args.self.now c.hear.new.self c.in_ok-used.field-0 c.in_ok-used.field-0.outcome c.in-Some.outcome c.in-Some.is
    (c.in_ok-used.ensures.hears c.args.config.now.host c.args.config.now.routes c.requires.serves) in
    record {
      ends = record {
        used = c.in_ok-used.field-0.used;
        within = ended.within;
        out = c.in_ok-used.field-0.out.items;
        verdicts = ended.verdicts;
        course = ended.course told tells;
      };
      room =
          subst (λ (o : Outcome). HasNoRoomAfter (reporter_of c.args.config.now) o c.args.records.now c.args.row.now) (ended.of_told told tells)
          (full_for_staged (reporter_of c.args.config.now) c.in-Some.outcome c.args.records.now c.conclude_into.new.records
          c.args.row.now c.conclude_into.new.row c.in-Err.fault (fault_is _ c.in-Err.fault Full is) c.in-Err.ensures.refused);
    }

pub returns-in-Err-clause-refused : goal.returns-in-Err-clause-refused
returns-in-Err-clause-refused g c =
    let ended = had_ended c.args.config.now.host c.args.records.now.queue c.args.now c.args.attempt c.args.piece.now
    c.args.self.now c.hear.new.self c.in_ok-used.field-0 c.in_ok-used.field-0.outcome c.in-Some.outcome c.in-Some.is
    (c.in_ok-used.ensures.hears c.args.config.now.host c.args.config.now.routes c.requires.serves) in
    refused_after (reporter_of c.args.config.now) c.in-Some.outcome c.args.records.now c.conclude_into.new.records c.args.row.now
    c.conclude_into.new.row c.args.attempt c.args.self.now c.conclude_into.new.self c.in-Err.fault
    (some_there _ ended.run ended.was)
    (is_gone c.args.self.now.runs c.conclude_into.new.self.runs c.args.attempt (c.conclude_into.ensures.runs ∙ ended.gone))
    c.in-Err.ensures.refused

pub returns-in-Err-clause-serves : goal.returns-in-Err-clause-serves
returns-in-Err-clause-serves g c =
    let ended = had_ended c.args.config.now.host c.args.records.now.queue c.args.now c.args.attempt c.args.piece.now
    c.args.self.now c.hear.new.self c.in_ok-used.field-0 c.in_ok-used.field-0.outcome c.in-Some.outcome c.in-Some.is
    (c.in_ok-used.ensures.hears c.args.config.now.host c.args.config.now.routes c.requires.serves) in
    refused_serves c.args.config.now.host c.args.config.now.routes c.args.records.now.queue c.args.attempt ended.run
    c.args.self.now c.conclude_into.new.self c.requires.serves ended.was (c.conclude_into.ensures.runs ∙ ended.gone)
    c.conclude_into.new.records.queue
    (queue_unstaged (reporter_of c.args.config.now) c.in-Some.outcome c.args.records.now c.conclude_into.new.records
    c.args.row.now c.conclude_into.new.row c.in-Err.fault c.in-Err.ensures.refused)
    (c.conclude_into.ensures.known (c.hear.ensures.stranded ∙ c.requires.serves.stranded))
