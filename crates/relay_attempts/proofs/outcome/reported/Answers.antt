-- The report makes the outcome fit.
use Rattle.std.proofs.Common.{◌≡◌, ◌≤◌, Some, rules, sym, subst}
use Rattle.relay_trace.specs.declared.moment.TheConstants.{LAST_SECOND}
use Rattle.relay_book.specs.declared.change.Change.{Change}
use Rattle.relay_book.specs.Queue.{message_of}
use Rattle.relay_report.specs.Report.{reporter}
use Rattle.relay_attempts.specs.AddedOutcome.{IsReported}
use Rattle.relay_attempts.proofs.AddedLemmas.{due_as, is_reported}
use Rattle.relay_attempts.proofs.outcome.reported.Goals as goal

pub returns : goal.returns
returns g c =
    let queue = c.args.records.now.queue in
    let moment : c.args.outcome.at ≤ LAST_SECOND = search rules in
    let found : message_of queue.messages c.args.outcome.message ≡ Some c.in-Some.message.now = search rules in
    subst (λ (change : Change). IsReported (reporter c.args.host.now c.args.form) queue c.args.outcome change) (sym c.with_report.ensures)
    (is_reported (reporter c.args.host.now c.args.form) queue c.args.outcome c.in-Some.message.now c.in_ok-report.report c.requires.number c.requires.host moment
    c.requires.comes c.is_queue.ensures found
    (due_as c.args.form c.args.host.now c.next_number.result queue.next c.in-Some.message.now c.as_slice.result.now c.args.outcome.hop
    c.as_slice-2.result.now c.args.outcome.rulings c.args.outcome.at c.in_ok-report.report
    c.next_number.ensures.number c.as_slice.ensures c.as_slice-2.ensures c.in_ok-report.ensures))
