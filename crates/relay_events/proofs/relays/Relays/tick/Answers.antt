use Rattle.relay_events.specs.Relays.{world_of}
use Rattle.relay_events.proofs.StepLemmas.{has_ticked, tick_order, tick_steps}
use Rattle.relay_events.proofs.relays.Relays.tick.Goals as goal

pub returns-clause-happened : goal.returns-clause-happened
returns-clause-happened g c = has_ticked g.D.Disk.honest g.D.Disk.words (world_of c.args.self.now) c.args.now

pub returns-clause-order : goal.returns-clause-order
returns-clause-order g c =
    tick_order g.D.Disk.honest g.D.Disk.words c.requires.honest c.runs_keep_all.ensures c.args.self.now c.args.now c.requires.order

pub returns-clause-steps : goal.returns-clause-steps
returns-clause-steps g c =
    tick_steps g.D.Disk.honest g.D.Disk.words (world_of c.args.self.now) c.args.now c.requires.order.told
