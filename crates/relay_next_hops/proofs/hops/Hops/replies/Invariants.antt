-- those so far, and those to come
use Rattle.std.proofs.Common.{◌≡◌, ◌+◌, ◌-◌, ◌++◌, map}
use Rattle.std.specs.List.{filter_map}
use Rattle.relay_connections.specs.Hearing.{turned}
use Rattle.relay_next_hops.specs.Hearing.{replies_of, reply_at, told_of}
use Rattle.relay_next_hops.proofs.hops.Hops.replies.Given as goal

abbrev pub invariant-loop-step : goal.invariant-loop-step
invariant-loop-step g l = map told_of l.replies.items ++ filter_map (reply_at l.self.hops) (turned l.count (l.first + l.step) (l.count - l.step)) ≡ replies_of l.self
