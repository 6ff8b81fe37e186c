use Rattle.std.proofs.Common.{◌≡◌, ◌≤◌, take}
use Rattle.relay_world.specs.Copies.{lost_replies_of}
use Rattle.relay_pair.proofs.lost.lost_replies.Given as goal

-- the lost replies so far
abbrev pub invariant-loop-attempt : goal.invariant-loop-attempt
invariant-loop-attempt l = record {
  count_is : l.count ≡ lost_replies_of l.node l.message l.place (take l.attempt-index l.attempts);
  few : l.count ≤ l.attempt-index;
}
