use Rattle.relay_book.specs.Book.{numbers_live}
use Rattle.relay_book.proofs.MarkRowLemmas.{numbers_end, numbers_step}
use Rattle.std.proofs.Common.{arith}
use Rattle.relay_book.proofs.book.numbers.numbers_among.Goals as goal

pub loop-index-preserved : goal.loop-index-preserved
loop-index-preserved g c =
    let test = g.Q.Question.holds c.args.question.now in
    numbers_step test c.args.messages.now.entries c.loop-index.index c.in-Some.number.now c.in-Some.slot.now c.loop-index.numbers.items c.push_where.new.numbers.items
    (numbers_live test c.args.messages.now.entries) c.in-Some.ensures.entry c.loop-index.invariant c.in_ok-push_where.ensures

pub returns : goal.returns
returns g c =
    let test = g.Q.Question.holds c.args.question.now in
    let past = c.loop-index-test.false in
    let len = c.len-index-end.ensures.len in
    numbers_end test c.args.messages.now.entries c.loop-index.index c.loop-index.numbers.items (numbers_live test c.args.messages.now.entries) (omega (arith, past, len))
    c.loop-index.invariant
