use Rattle.std.proofs.Common.{◌≡◌, Some, refl, subst, true, rules}
use Rattle.relay_book.specs.declared.change.Outcome.{Outcome}
use Rattle.relay_book.specs.Queue.{message_of}
use Rattle.relay_report.specs.Report.{reporter_of}
use Rattle.relay_attempts.specs.AddedOutcome.{GrowsBy}
use Rattle.relay_attempts.specs.Hops.{is_any, stranded_places}
use Rattle.relay_attempts.proofs.OutcomeLemmas.{given_up_serves, has_stranded, refused_to_give_up, unroutable_may_come}
use Rattle.relay_attempts.proofs.attempts.Attempts.give_up_unroutable.Goals as goal

pub conclude-requires-clause-comes : goal.conclude-requires-clause-comes
conclude-requires-clause-comes g c =
    let found : message_of c.args.records.now.queue.messages c.args.number ≡ Some c.in-Some.message.now = search rules in
    let some : is_any (stranded_places c.args.config.now.routes c.in-Some.message.now) ≡ true = search rules in
    unroutable_may_come c.args.config.now.routes c.args.records.now.queue c.args.number c.args.now c.in-Some.message.now c.in-Ok.outcome c.in-Ok.ensures
    c.ranges.number.fits found some c.has_stranded.ensures.within

pub returns-in-Ok-conclude-clause-serves : goal.returns-in-Ok-conclude-clause-serves
returns-in-Ok-conclude-clause-serves g c =
    let found : message_of c.args.records.now.queue.messages c.args.number ≡ Some c.in-Some.message.now = search rules in
    let grows = c.in-Ok-conclude.ensures.grows in
    given_up_serves c.args.config.now.host c.args.config.now.routes c.args.records.now.queue c.conclude.new.records.queue c.args.number c.args.now c.in-Some.message.now
    c.in-Ok.outcome grows.report c.args.self.now c.conclude.new.self c.in-Ok.ensures found grows.grows.queue c.conclude.ensures.runs
    (c.conclude.ensures.known c.requires.serves.stranded) c.requires.serves

pub returns-in-Ok-conclude-clause-ends : goal.returns-in-Ok-conclude-clause-ends
returns-in-Ok-conclude-clause-ends g c =
    let found : message_of c.args.records.now.queue.messages c.args.number ≡ Some c.in-Some.message.now = search rules in
    record {
      message = c.in-Some.message.now;
      found = found;
      grows =
          subst
          (λ (o : Outcome). GrowsBy g.D.Disk.words (reporter_of c.args.config.now) o c.args.records.now c.conclude.new.records c.in-Ok-conclude.added)
          c.in-Ok.ensures c.in-Ok-conclude.ensures.grows;
    }

pub returns-in-Err-clause-refused : goal.returns-in-Err-clause-refused
returns-in-Err-clause-refused g c =
    let found : message_of c.args.records.now.queue.messages c.args.number ≡ Some c.in-Some.message.now = search rules in
    let live : c.args.records.now.spool.live ≡ true = search rules in
    let some : is_any (stranded_places c.args.config.now.routes c.in-Some.message.now) ≡ true = search rules in
    refused_to_give_up g.D.Disk.words (reporter_of c.args.config.now) c.args.config.now.routes c.args.number c.args.now c.in-Some.message.now c.in-Ok.outcome c.args.records.now
    c.conclude.new.records c.in-Err.fault live found some c.in-Ok.ensures c.in-Err.ensures.refused

pub returns-in_default-unroutable-clause-refused : goal.returns-in_default-unroutable-clause-refused
returns-in_default-unroutable-clause-refused g c =
    let found : message_of c.args.records.now.queue.messages c.args.number ≡ Some c.in-Some.message.now = search rules in
    let live : c.args.records.now.spool.live ≡ true = search rules in
    let some : is_any (stranded_places c.args.config.now.routes c.in-Some.message.now) ≡ true = search rules in
    (live, has_stranded g.D.Disk.words (reporter_of c.args.config.now) c.args.config.now.routes c.args.number c.args.now c.in-Some.message.now c.args.records.now found some, refl)
