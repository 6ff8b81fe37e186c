-- A step leaves relays in order, and nothing leaks by it.
use Rattle.relay_events.specs.Relays.{world_of}
use Rattle.relay_events.proofs.Theorems.{step_leaks_nothing}
use Rattle.relay_pair.proofs.pair.Pair.step.Goals as goal

pub invariant_of-self : goal.invariant_of-self
invariant_of-self g c = record {
  order = c.step.ensures.order;
  leaks = step_leaks_nothing g.D.Disk.honest g.D.Disk.words c.requires c.runs_keep_all.ensures
      c.crashing_happens.ensures c.resting_crash_happens.ensures (world_of c.self.inside.relays) c.args.event.now
      (world_of c.step.new.self) c.step.result c.step.ensures.steps c.self.invariant.order.bound
      c.self.invariant.leaks;
}

pub returns-clause-leaks : goal.returns-clause-leaks
returns-clause-leaks g c =
    step_leaks_nothing g.D.Disk.honest g.D.Disk.words c.requires c.runs_keep_all.ensures c.crashing_happens.ensures
    c.resting_crash_happens.ensures (world_of c.self.inside.relays) c.args.event.now (world_of c.step.new.self)
    c.step.result c.step.ensures.steps c.self.invariant.order.bound c.self.invariant.leaks
