-- The loss of an attempt that has begun is recorded, or refused.
use Rattle.relay_next_hops.proofs.LossLemmas.{ok_then, running_lost}
use Rattle.relay_next_hops.proofs.ending.conclude.Goals as goal

pub returns-clause-lost : goal.returns-clause-lost
returns-clause-lost g c = λ loss attempt is some.
    ok_then _ _ c.finish.result
    (running_lost g.D.Disk.words c.args.turn.now.now c.args.ended.1 _ _ c.args.relay.now c.finish.new.relay attempt some)
    (c.finish.ensures.lost loss is)
