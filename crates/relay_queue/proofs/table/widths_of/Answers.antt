-- the widths with one recipient more
use Rattle.relay_queue.proofs.WidthLemmas.{widths_stand}
use Rattle.relay_queue.proofs.table.widths_of.Goals as goal

pub loop-key-preserved : goal.loop-key-preserved
loop-key-preserved c =
    widths_stand c.args.table.now c.args.look.now.queue c.args.keys.now c.loop-key.key-index _ c.loop-key.widths _ c.loop-key-test.true
    c.loop-key.invariant c.wider_at-widths.ensures
