use Rattle.relay_book.proofs.SnapshotWriteLemmas.{entries_step, rest_valid, slot_valid}
use Rattle.relay_book.proofs.book.snapshot.push_entries.Goals as goal

pub push_slot-requires : goal.push_slot-requires
push_slot-requires c =
    slot_valid c.args.messages.now.entries c.loop-index.index c.in-Some.number.now c.in-Some.slot.now c.in-Some.ensures.entry c.loop-index.invariant.valid

pub loop-index-preserved : goal.loop-index-preserved
loop-index-preserved c = record {
  written = entries_step c.args.messages.now.entries c.loop-index.index c.in-Some.number.now c.in-Some.slot.now c.loop-index.out.items c.push_slot.new.out.items _
      c.in-Some.ensures.entry c.loop-index.invariant.written c.in_ok-push_slot.ensures;
  valid = rest_valid c.args.messages.now.entries c.loop-index.index c.in-Some.number.now c.in-Some.slot.now c.in-Some.ensures.entry c.loop-index.invariant.valid;
}
