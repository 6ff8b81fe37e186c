use Rattle.relay_book.specs.Book.{marks_live}
use Rattle.relay_book.specs.Queue.{is_held}
use Rattle.relay_book.proofs.MarkRowLemmas.{marks_end, marks_step}
use Rattle.std.proofs.Common.{arith}
use Rattle.relay_book.proofs.book.questions.held_places.Goals as goal

pub loop-index-preserved : goal.loop-index-preserved
loop-index-preserved c =
    marks_step is_held c.args.messages.now.entries c.loop-index.index c.in-Some.number.now c.in-Some.slot.now c.loop-index.marks.items c.push_held.new.marks.items
    (marks_live is_held c.args.messages.now.entries) c.in-Some.ensures.entry c.loop-index.invariant c.in_ok-push_held.ensures

pub returns : goal.returns
returns c =
    let past = c.loop-index-test.false in
    let len = c.len-index-end.ensures.len in
    marks_end is_held c.args.messages.now.entries c.loop-index.index c.loop-index.marks.items (marks_live is_held c.args.messages.now.entries) (omega (arith, past, len))
    c.loop-index.invariant
