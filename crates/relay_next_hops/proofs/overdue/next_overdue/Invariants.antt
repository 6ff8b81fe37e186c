-- The tasks that it has passed over aren't overdue, so the first that is overdue is among those that are left.
use Rattle.std.proofs.Common.{◌≡◌, drop}
use Rattle.relay_next_hops.specs.Lanes.{KeepsCounts, OnlyLane, tasks_at}
use Rattle.relay_next_hops.specs.Overdue.{overdue_at, unchecked_at}
use Rattle.relay_next_hops.proofs.overdue.next_overdue.Given as goal

abbrev pub invariant-loop-checks : goal.invariant-loop-checks
invariant-loop-checks g l = record {
  first : overdue_at l.now.moment l.relay.node.records.queue.messages l.lanes l.lane l.checks
      ≡ overdue_at l.now.moment l.relay.node.records.queue.messages l.initial.lanes l.lane l.initial.checks;
  rest : drop l.checks (unchecked_at l.lanes l.lane) ≡ drop l.initial.checks (unchecked_at l.initial.lanes l.lane);
  tasks : tasks_at l.lanes l.lane ≡ tasks_at l.initial.lanes l.lane;
  counts : KeepsCounts l.initial.lanes l.lanes;
  only : OnlyLane l.lane l.initial.lanes l.lanes;
}

abbrev pub decreases-loop-checks : goal.decreases-loop-checks
decreases-loop-checks g l = l.checks
