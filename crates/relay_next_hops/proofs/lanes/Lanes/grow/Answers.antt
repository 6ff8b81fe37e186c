-- A new lane has no task.
use Rattle.std.proofs.Common.{◌∙◌}
use Rattle.relay_next_hops.proofs.ListingLemmas.{tasks_grown}
use Rattle.relay_next_hops.proofs.lanes.Lanes.grow.Goals as goal

pub loop-preserved : goal.loop-preserved
loop-preserved c = (
  c.loop.invariant.0,
  c.loop.invariant.1,
  c.loop.invariant.2,
  c.loop.invariant.3,
  c.loop.invariant.4,
  c.loop.invariant.5,
  c.loop.invariant.6,
  λ lane. tasks_grown c.loop.self.lanes.items c.push.new.self.items c.new.result _ c.new.ensures c.push.ensures.items lane ∙ c.loop.invariant.7 lane,
  c.loop.invariant.8,
  c.loop.invariant.9,
  c.loop.invariant.10,
)

pub returns-then-is_err-2-clause-tasks : goal.returns-then-is_err-2-clause-tasks
returns-then-is_err-2-clause-tasks c = λ lane.
    tasks_grown c.loop.self.lanes.items c.push.new.self.items c.new.result _ c.new.ensures c.push.ensures.items lane ∙ c.loop.invariant.7 lane
