use Rattle.std.proofs.Common.{◌≡◌, Some, subst, true, false, rules}
use Rattle.relay_book.specs.declared.change.Outcome.{Outcome}
use Rattle.relay_book.specs.Queue.{message_of}
use Rattle.relay_report.specs.Report.{reporter_of}
use Rattle.relay_attempts.specs.AddedOutcome.{GrowsBy}
use Rattle.relay_attempts.specs.Withdrawals.{NamesHeld, is_tried}
use Rattle.relay_attempts.proofs.WithdrawalLemmas.{refused_to_withdraw, withdrawal_may_come, withdrawn_serves}
use Rattle.relay_attempts.proofs.attempts.Attempts.withdraw.Goals as goal

pub conclude-requires-clause-comes : goal.conclude-requires-clause-comes
conclude-requires-clause-comes g c =
    let found : message_of c.args.records.now.queue.messages c.args.number ≡ Some c.in-Some.message.now = search rules in
    let named : NamesHeld c.args.places.now c.in-Some.message.now = search rules in
    withdrawal_may_come c.args.records.now.queue c.args.number c.args.now c.args.withdrawal c.args.places.now c.in-Some.message.now
    c.in-Ok.outcome c.in-Ok.ensures c.ranges.number.fits found named c.names_held.ensures.within

pub returns-in-Ok-conclude-clause-serves : goal.returns-in-Ok-conclude-clause-serves
returns-in-Ok-conclude-clause-serves g c =
    let found : message_of c.args.records.now.queue.messages c.args.number ≡ Some c.in-Some.message.now = search rules in
    let free : is_tried c.args.self.now.runs c.args.number c.args.places.now ≡ false = search rules in
    let grows = c.in-Ok-conclude.ensures.grows in
    withdrawn_serves c.args.config.now.host c.args.config.now.routes c.args.records.now.queue c.conclude.new.records.queue c.args.number c.args.now
    c.args.withdrawal c.args.places.now c.in-Some.message.now c.in-Ok.outcome grows.report c.args.self.now c.conclude.new.self c.in-Ok.ensures found
    free grows.grows.queue c.conclude.ensures.runs (c.conclude.ensures.known c.requires.serves.stranded) c.requires.serves

pub returns-in-Ok-conclude-clause-ends : goal.returns-in-Ok-conclude-clause-ends
returns-in-Ok-conclude-clause-ends g c =
    let found : message_of c.args.records.now.queue.messages c.args.number ≡ Some c.in-Some.message.now = search rules in
    let named : NamesHeld c.args.places.now c.in-Some.message.now = search rules in
    let free : is_tried c.args.self.now.runs c.args.number c.args.places.now ≡ false = search rules in
    record {
      message = c.in-Some.message.now;
      found = found;
      named = named;
      free = free;
      grows =
          subst
          (λ (o : Outcome). GrowsBy g.D.Disk.words (reporter_of c.args.config.now) o c.args.records.now c.conclude.new.records c.in-Ok-conclude.added)
          c.in-Ok.ensures c.in-Ok-conclude.ensures.grows;
    }

pub returns-in-Err-clause-refused : goal.returns-in-Err-clause-refused
returns-in-Err-clause-refused g c =
    let found : message_of c.args.records.now.queue.messages c.args.number ≡ Some c.in-Some.message.now = search rules in
    let live : c.args.records.now.spool.live ≡ true = search rules in
    let named : NamesHeld c.args.places.now c.in-Some.message.now = search rules in
    let free : is_tried c.args.self.now.runs c.args.number c.args.places.now ≡ false = search rules in
    refused_to_withdraw g.D.Disk.words (reporter_of c.args.config.now) c.args.self.now.runs c.args.number c.args.now c.args.withdrawal c.args.places.now
    c.in-Some.message.now c.in-Ok.outcome c.args.records.now c.conclude.new.records c.in-Err.fault live found named free c.in-Ok.ensures
    c.in-Err.ensures.refused
