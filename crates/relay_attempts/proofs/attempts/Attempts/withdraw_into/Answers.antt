use Rattle.std.proofs.Common.{◌≡◌, Some, subst, false, rules}
use Rattle.relay_book.specs.declared.change.Outcome.{Outcome}
use Rattle.relay_book.specs.Queue.{message_of}
use Rattle.relay_report.specs.Report.{reporter_of}
use Rattle.relay_attempts.specs.Staging.{GrowsRowBy}
use Rattle.relay_attempts.specs.Withdrawals.{NamesHeld, is_tried}
use Rattle.relay_attempts.proofs.WithdrawalLemmas.{refused_to_stage, withdrawal_may_come, withdrawn_serves}
use Rattle.relay_attempts.proofs.attempts.Attempts.withdraw_into.Goals as goal

pub conclude_into-requires : goal.conclude_into-requires
conclude_into-requires g c =
    let found : message_of c.args.records.now.queue.messages c.args.number ≡ Some c.in-Some.message.now = search rules in
    let named : NamesHeld c.args.withdrawn.places.now c.in-Some.message.now = search rules in
    record {
      comes =
          withdrawal_may_come c.args.records.now.queue c.args.number c.args.now c.args.withdrawn.withdrawal c.args.withdrawn.places.now c.in-Some.message.now
          c.in-Ok.outcome c.in-Ok.ensures c.ranges.number.fits found named c.names_held.ensures.within;
    }

pub returns-in-Ok-conclude_into-clause-serves : goal.returns-in-Ok-conclude_into-clause-serves
returns-in-Ok-conclude_into-clause-serves g c =
    let found : message_of c.args.records.now.queue.messages c.args.number ≡ Some c.in-Some.message.now = search rules in
    let free : is_tried c.args.self.now.runs c.args.number c.args.withdrawn.places.now ≡ false = search rules in
    let grows = c.in-Ok-conclude_into.ensures.grows in
    withdrawn_serves c.args.config.now.host c.args.config.now.routes c.args.records.now.queue c.conclude_into.new.records.queue c.args.number c.args.now
    c.args.withdrawn.withdrawal c.args.withdrawn.places.now c.in-Some.message.now c.in-Ok.outcome grows.report c.args.self.now c.conclude_into.new.self c.in-Ok.ensures found
    free grows.stages.queue c.conclude_into.ensures.runs (c.conclude_into.ensures.known c.requires.serves.stranded) c.requires.serves

pub returns-in-Ok-conclude_into-clause-stages : goal.returns-in-Ok-conclude_into-clause-stages
returns-in-Ok-conclude_into-clause-stages g c =
    let found : message_of c.args.records.now.queue.messages c.args.number ≡ Some c.in-Some.message.now = search rules in
    let named : NamesHeld c.args.withdrawn.places.now c.in-Some.message.now = search rules in
    let free : is_tried c.args.self.now.runs c.args.number c.args.withdrawn.places.now ≡ false = search rules in
    record {
      message = c.in-Some.message.now;
      found = found;
      named = named;
      free = free;
      grows =
          subst
          (λ (o : Outcome). GrowsRowBy (reporter_of c.args.config.now) o 0 c.args.records.now c.conclude_into.new.records c.args.row.now c.conclude_into.new.row c.in-Ok-conclude_into.staged)
          c.in-Ok.ensures c.in-Ok-conclude_into.ensures.grows;
    }

pub returns-in-Err-clause-refused : goal.returns-in-Err-clause-refused
returns-in-Err-clause-refused g c =
    let found : message_of c.args.records.now.queue.messages c.args.number ≡ Some c.in-Some.message.now = search rules in
    let named : NamesHeld c.args.withdrawn.places.now c.in-Some.message.now = search rules in
    let free : is_tried c.args.self.now.runs c.args.number c.args.withdrawn.places.now ≡ false = search rules in
    refused_to_stage g.D.Disk.words (reporter_of c.args.config.now) c.args.self.now.runs c.args.number c.args.now c.args.withdrawn.withdrawal c.args.withdrawn.places.now
    c.in-Some.message.now c.in-Ok.outcome c.args.records.now c.conclude_into.new.records c.args.row.now c.conclude_into.new.row c.in-Err.fault found named free
    c.in-Ok.ensures c.in-Err.ensures.refused
