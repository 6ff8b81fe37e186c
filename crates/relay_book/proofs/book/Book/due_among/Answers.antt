use Rattle.std.proofs.Common.{◌++◌, Option, ap, ◌∙◌}
use Rattle.relay_book.specs.declared.message.Message.{Message}
use Rattle.relay_book.specs.Queue.{is_due_at}
use Rattle.relay_book.specs.Book.{marks_of_slot}
use Rattle.relay_book.proofs.DueLemmas.{marks_next}
use Rattle.relay_book.proofs.book.Book.due_among.Goals as goal

pub loop-number-preserved-in-Continue-1 : goal.loop-number-preserved-in-Continue-1
loop-number-preserved-in-Continue-1 c =
    marks_next (is_due_at c.args.latest) c.args.self.now.queue.messages c.in-Some.number.now c.loop-number.number-iterator c.next.new.self
    c.loop-number.marks.items c.push_due.new.marks.items _ c.in-Some.ensures.steps c.loop-number.invariant
    (c.in_ok-push_due.ensures
    ∙ ap (λ (o : Option Message). c.loop-number.marks.items ++ marks_of_slot (is_due_at c.args.latest) c.in-Some.number.now o) c.in-Some-message.ensures)
