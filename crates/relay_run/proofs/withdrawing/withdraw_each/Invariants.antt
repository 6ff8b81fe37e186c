-- the messages so far have outcomes, and there is room for those of the others
use Rattle.std.proofs.Common.{◌≡◌, ◌≤◌, ◌-◌, length, vec_capacity}
use Rattle.relay_run.specs.Withdrawing.{HaveOutcomes}
use Rattle.relay_run.proofs.withdrawing.withdraw_each.Given as goal

abbrev pub invariant-loop-withdrawal : goal.invariant-loop-withdrawal
invariant-loop-withdrawal g l = record {
  have : HaveOutcomes g.D.Disk.honest g.D.Disk.words l.now.moment l.withdrawal l.names l.outcomes.items l.fn.relay l.relay;
  within : length l.outcomes.items ≤ length l.names;
  room : vec_capacity l.outcomes ≡ vec_capacity l.fn.outcomes;
}

abbrev pub decreases-loop-withdrawal : goal.decreases-loop-withdrawal
decreases-loop-withdrawal g l = length l.names - length l.outcomes.items
