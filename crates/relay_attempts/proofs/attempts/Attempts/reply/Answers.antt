-- An attempt that has ended leaves its outcome after.
use Rattle.std.proofs.Common.{◌∙◌, ℕ, refl, subst, arith, rules}
use Rattle.relay_book.specs.declared.change.Outcome.{Outcome}
use Rattle.relay_records.specs.declared.fault.NodeFault.TheVariants.{Full, Stopped}
use Rattle.relay_report.specs.Report.{reporter_of}
use Rattle.relay_attempts.specs.AddedOutcome.{AddsOutcome, CutsOutcome, GrowsBy, HasNoRoom}
use Rattle.relay_attempts.proofs.AmongLemmas.{ended_serves, refused_serves}
use Rattle.relay_attempts.proofs.HearLemmas.{had_ended, is_gone, went_on}
use Rattle.relay_attempts.proofs.RefusalLemmas.{fault_is, full_for_outcome, queue_stays, refused_to_hear, same_fault, some_there}
use Rattle.relay_attempts.proofs.attempts.Attempts.reply.Goals as goal

pub returns-in_default-clause-replies : goal.returns-in_default-clause-replies
returns-in_default-clause-replies g c = λ changes told keeps tells.
    let on = went_on c.args.config.now.host c.args.records.now.queue c.args.now c.args.attempt c.args.piece.now
    c.args.self.now c.hear.new.self c.in_ok-used.field-0 c.in_ok-used.field-0.outcome c.in_default.is
    (c.in_ok-used.ensures.hears c.args.config.now.host c.args.config.now.routes c.requires.serves) in
    record { used = on.used; same = refl; tells = on.tells told tells }

pub returns-in_default-clause-heard : goal.returns-in_default-clause-heard
returns-in_default-clause-heard g c =
    let on = went_on c.args.config.now.host c.args.records.now.queue c.args.now c.args.attempt c.args.piece.now
    c.args.self.now c.hear.new.self c.in_ok-used.field-0 c.in_ok-used.field-0.outcome c.in_default.is
    (c.in_ok-used.ensures.hears c.args.config.now.host c.args.config.now.routes c.requires.serves) in
    let used = on.used in
    record { within = omega (arith, used); whole = λ _. used; makes = (search rules, on.was, refl) }

pub returns-in_default-clause-serves : goal.returns-in_default-clause-serves
returns-in_default-clause-serves g c =
    c.hear.ensures.serves c.args.config.now.host c.args.config.now.routes c.requires.serves

pub conclude-requires-clause-comes : goal.conclude-requires-clause-comes
conclude-requires-clause-comes g c =
    (had_ended c.args.config.now.host c.args.records.now.queue c.args.now c.args.attempt c.args.piece.now
    c.args.self.now c.hear.new.self c.in_ok-used.field-0 c.in_ok-used.field-0.outcome c.in-Some.outcome c.in-Some.is
    (c.in_ok-used.ensures.hears c.args.config.now.host c.args.config.now.routes c.requires.serves)).comes

pub returns-in-Ok-clause-replies : goal.returns-in-Ok-clause-replies
returns-in-Ok-clause-replies g c = λ changes told keeps tells.
    let ended = had_ended c.args.config.now.host c.args.records.now.queue c.args.now c.args.attempt c.args.piece.now
    c.args.self.now c.hear.new.self c.in_ok-used.field-0 c.in_ok-used.field-0.outcome c.in-Some.outcome c.in-Some.is
    (c.in_ok-used.ensures.hears c.args.config.now.host c.args.config.now.routes c.requires.serves) in
    record {
      verdicts = ended.verdicts;
      course = ended.course told tells;
      adds =
          subst
          (λ (o : Outcome). AddsOutcome g.D.Disk.honest g.D.Disk.words (reporter_of c.args.config.now) changes o c.in_ok-used.field-0.used c.conclude.new.records c.in-Ok.number)
          (ended.of_told told tells) (c.in-Ok.ensures.ok changes keeps);
      calls = c.in-Ok.ensures.grows.grows.calls;
      gone = is_gone c.args.self.now.runs c.conclude.new.self.runs c.args.attempt (c.conclude.ensures.runs ∙ ended.gone);
    }

pub returns-in-Ok-clause-heard : goal.returns-in-Ok-clause-heard
returns-in-Ok-clause-heard g c =
    let ended = had_ended c.args.config.now.host c.args.records.now.queue c.args.now c.args.attempt c.args.piece.now
    c.args.self.now c.hear.new.self c.in_ok-used.field-0 c.in_ok-used.field-0.outcome c.in-Some.outcome c.in-Some.is
    (c.in_ok-used.ensures.hears c.args.config.now.host c.args.config.now.routes c.requires.serves) in
    record {
      within = ended.within;
      whole = λ none. absurd (cc);
      makes = record {
        live = search rules;
        run = ended.run;
        was = ended.was;
        gone = is_gone c.args.self.now.runs c.conclude.new.self.runs c.args.attempt (c.conclude.ensures.runs ∙ ended.gone);
        verdicts = ended.verdicts;
        each = ended.each;
        grows =
            subst
            (λ (o : Outcome). GrowsBy g.D.Disk.words (reporter_of c.args.config.now) o c.args.records.now c.conclude.new.records c.in-Ok.number)
            ended.outcome_is c.in-Ok.ensures.grows;
      };
    }

pub returns-in-Ok-clause-serves : goal.returns-in-Ok-clause-serves
returns-in-Ok-clause-serves g c =
    let ended = had_ended c.args.config.now.host c.args.records.now.queue c.args.now c.args.attempt c.args.piece.now
    c.args.self.now c.hear.new.self c.in_ok-used.field-0 c.in_ok-used.field-0.outcome c.in-Some.outcome c.in-Some.is
    (c.in_ok-used.ensures.hears c.args.config.now.host c.args.config.now.routes c.requires.serves) in
    let grows = c.in-Ok.ensures.grows in
    ended_serves c.args.config.now.host c.args.config.now.routes c.args.records.now.queue c.args.attempt ended.run
    c.args.self.now c.conclude.new.self c.requires.serves ended.was (c.conclude.ensures.runs ∙ ended.gone) c.in-Some.outcome
    grows.report c.args.now ended.verdicts c.conclude.new.records.queue ended.outcome_is grows.grows.queue
    (c.conclude.ensures.known (c.hear.ensures.stranded ∙ c.requires.serves.stranded))

pub returns-in-Err-clause-cut : goal.returns-in-Err-clause-cut
returns-in-Err-clause-cut g c = λ changes told keeps tells is.
    let ended = had_ended c.args.config.now.host c.args.records.now.queue c.args.now c.args.attempt c.args.piece.now
    c.args.self.now c.hear.new.self c.in_ok-used.field-0 c.in_ok-used.field-0.outcome c.in-Some.outcome c.in-Some.is
    (c.in_ok-used.ensures.hears c.args.config.now.host c.args.config.now.routes c.requires.serves) in
    record {
      ends = record {
        used = c.in_ok-used.field-0.used;
        within = ended.within;
        out = c.in_ok-used.field-0.out.items;
        verdicts = ended.verdicts;
        course = ended.course told tells;
      };
      cuts =
          subst
          (λ (o : Outcome). CutsOutcome g.D.Disk.honest g.D.Disk.words (reporter_of c.args.config.now) changes o c.in_ok-used.field-0.used c.conclude.new.records)
          (ended.of_told told tells) (c.in-Err.ensures.cut changes keeps (same_fault _ ℕ c.in-Err.fault Stopped is));
    }

pub returns-in-Err-clause-full : goal.returns-in-Err-clause-full
returns-in-Err-clause-full g c = λ told tells is.
    let ended = had_ended c.args.config.now.host c.args.records.now.queue c.args.now c.args.attempt c.args.piece.now
    c.args.self.now c.hear.new.self c.in_ok-used.field-0 c.in_ok-used.field-0.outcome c.in-Some.outcome c.in-Some.is
    (c.in_ok-used.ensures.hears c.args.config.now.host c.args.config.now.routes c.requires.serves) in
    record {
      ends = record {
        used = c.in_ok-used.field-0.used;
        within = ended.within;
        out = c.in_ok-used.field-0.out.items;
        verdicts = ended.verdicts;
        course = ended.course told tells;
      };
      room =
          subst (λ (o : Outcome). HasNoRoom (reporter_of c.args.config.now) o c.args.records.now) (ended.of_told told tells)
          (full_for_outcome g.D.Disk.words (reporter_of c.args.config.now) c.in-Some.outcome c.args.records.now c.conclude.new.records
          c.in-Err.fault (fault_is _ c.in-Err.fault Full is) c.in-Err.ensures.refused);
    }

pub returns-in-Err-clause-refused : goal.returns-in-Err-clause-refused
returns-in-Err-clause-refused g c =
    let ended = had_ended c.args.config.now.host c.args.records.now.queue c.args.now c.args.attempt c.args.piece.now
    c.args.self.now c.hear.new.self c.in_ok-used.field-0 c.in_ok-used.field-0.outcome c.in-Some.outcome c.in-Some.is
    (c.in_ok-used.ensures.hears c.args.config.now.host c.args.config.now.routes c.requires.serves) in
    refused_to_hear g.D.Disk.words (reporter_of c.args.config.now) c.in-Some.outcome c.args.records.now c.conclude.new.records
    c.args.attempt c.args.self.now c.conclude.new.self c.in-Err.fault
    (record {
      live = search rules;
      was = some_there _ ended.run ended.was;
      gone = is_gone c.args.self.now.runs c.conclude.new.self.runs c.args.attempt (c.conclude.ensures.runs ∙ ended.gone);
    })
    c.in-Err.ensures.refused

pub returns-in-Err-clause-serves : goal.returns-in-Err-clause-serves
returns-in-Err-clause-serves g c =
    let ended = had_ended c.args.config.now.host c.args.records.now.queue c.args.now c.args.attempt c.args.piece.now
    c.args.self.now c.hear.new.self c.in_ok-used.field-0 c.in_ok-used.field-0.outcome c.in-Some.outcome c.in-Some.is
    (c.in_ok-used.ensures.hears c.args.config.now.host c.args.config.now.routes c.requires.serves) in
    refused_serves c.args.config.now.host c.args.config.now.routes c.args.records.now.queue c.args.attempt ended.run
    c.args.self.now c.conclude.new.self c.requires.serves ended.was (c.conclude.ensures.runs ∙ ended.gone)
    c.conclude.new.records.queue
    (queue_stays g.D.Disk.words (reporter_of c.args.config.now) c.in-Some.outcome c.args.records.now c.conclude.new.records
    c.in-Err.fault c.in-Err.ensures.refused)
    (c.conclude.ensures.known (c.hear.ensures.stranded ∙ c.requires.serves.stranded))
