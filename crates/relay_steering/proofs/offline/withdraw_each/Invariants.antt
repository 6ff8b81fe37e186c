-- the messages so far have outcomes, and there is room for those of the others
use Rattle.std.proofs.Common.{◌≡◌, length, take, vec_capacity}
use Rattle.relay_steering.specs.Withdrawing.{HaveOutcomes}
use Rattle.relay_steering.proofs.offline.withdraw_each.Given as goal

abbrev pub invariant-loop-selected : goal.invariant-loop-selected
invariant-loop-selected g l = record {
  have : HaveOutcomes g.D.Disk.honest g.D.Disk.words l.now l.withdrawal (take l.selected-index l.messages) l.outcomes.items l.fn.node l.node;
  count : length l.outcomes.items ≡ l.selected-index;
  room : vec_capacity l.outcomes ≡ vec_capacity l.fn.outcomes;
}
