use Rattle.relay_events.specs.Act.{did_of}
use Rattle.relay_events.specs.Relays.{world_of}
use Rattle.relay_events.proofs.CarryLemmas.{carried_steps}
use Rattle.relay_events.proofs.RunLemmas.{both_happened, still_bound}
use Rattle.relay_events.proofs.relays.Relays.carry_to_client.Goals as goal

pub finish-requires-clause-bound : goal.finish-requires-clause-bound
finish-requires-clause-bound g c =
    still_bound g.D.Disk.honest g.D.Disk.words c.requires.honest c.runs_keep_all.ensures (world_of c.args.self.now)
    (world_of c.carry_replies-act.new.self) c.requires.order.bound c.carry_replies-act.ensures.happened

pub returns-clause-steps : goal.returns-clause-steps
returns-clause-steps g c node none at =
    carried_steps g.D.Disk.honest g.D.Disk.words (world_of c.args.self.now) (world_of c.carry_replies-act.new.self)
    (world_of c.finish.new.self) c.args.number node c.args.count (did_of c.carry_replies-act.result) c.finish.result none
    (c.carry_replies-act.ensures.carries node at) c.finish.ensures.finished

pub returns-clause-happened : goal.returns-clause-happened
returns-clause-happened g c =
    both_happened g.D.Disk.honest g.D.Disk.words (world_of c.args.self.now) (world_of c.carry_replies-act.new.self)
    (world_of c.finish.new.self) c.carry_replies-act.ensures.happened c.finish.ensures.happened
