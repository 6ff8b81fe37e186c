-- the loads with the recipient at one place more
use Rattle.relay_queue.proofs.LoadLemmas.{loads_stand}
use Rattle.relay_queue.proofs.summary.loads_of.Goals as goal

pub loop-mark-preserved : goal.loop-mark-preserved
loop-mark-preserved c =
    loads_stand c.args.table.now c.args.look.now.queue _ c.loop-mark.mark-index _ _ _ c.loop-mark-test.true
    c.loop-mark.invariant c.in_ok-count_at.ensures
