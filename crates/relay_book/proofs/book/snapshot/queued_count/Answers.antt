use Rattle.std.proofs.Common.{arith, length}
use Rattle.relay_book.specs.Book.{live}
use Rattle.relay_book.proofs.SnapshotWriteLemmas.{count_step, one_at_most}
use Rattle.relay_book.proofs.book.snapshot.queued_count.Goals as goal

pub loop-index-preserved : goal.loop-index-preserved
loop-index-preserved c =
    let one = c.count_of-count.ensures in
    let most = one_at_most c.in-Some.slot.now in
    let within = c.loop-index.invariant.within in
    record {
      counted = count_step c.args.messages.now.entries c.loop-index.index c.in-Some.field-0-0.now c.in-Some.slot.now c.loop-index.count c.count_of-count.result
          (length (live c.args.messages.now.entries)) c.in-Some.ensures.entry c.loop-index.invariant.counted one;
      within = omega (arith, one, most, within);
    }
