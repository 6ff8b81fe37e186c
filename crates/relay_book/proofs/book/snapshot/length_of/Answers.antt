use Rattle.std.proofs.Common.{arith}
use Rattle.relay_book.proofs.SnapshotLengthLemmas.{length_end, length_step}
use Rattle.relay_book.proofs.book.snapshot.length_of.Goals as goal

pub loop-index-preserved : goal.loop-index-preserved
loop-index-preserved c =
    let sum = c.saturating_add-total.ensures in
    record {
      summed = length_step c.args.messages.now.entries c.loop-index.index c.in-Some.field-0-0.now c.in-Some.slot.now c.loop-index.total c.length_of_slot.result
          c.saturating_add-total.result c.in-Some.ensures.entry c.loop-index.invariant.summed c.length_of_slot.ensures sum;
      within = omega (arith, sum);
    }

pub returns : goal.returns
returns c =
    let past = c.loop-index-test.false in
    let len = c.len-index-end.ensures.len in
    let within = c.loop-index.invariant.within in
    length_end c.args.messages.now.entries c.loop-index.index c.loop-index.total (omega (arith, past, len)) (omega (arith, within)) c.loop-index.invariant.summed
