-- so many links have their lanes, and so many passes are left
use Rattle.std.proofs.Common.{◌≡◌, ◌≤◌, ◌+◌, [], length, vec_len, vec_capacity}
use Rattle.std.specs.List.{AllByRecursion}
use Rattle.std.specs.Vec.Iter.{into_iter_items, into_iter_len}
use Rattle.relay_rounds.specs.Round.{IsLaneOf}
use Rattle.relay_rounds.specs.Row.{EachIs}
use Rattle.relay_rounds.proofs.lanes.lanes_of.Given as goal

abbrev pub invariant-loop-link : goal.invariant-loop-link
invariant-loop-link g l = record {
  lanes : EachIs IsLaneOf l.yielded l.lanes.items;
  many : vec_len l.lanes ≡ length l.yielded;
  room : vec_len l.fn.links ≤ vec_capacity l.lanes;
  fresh : AllByRecursion (λ receipts. receipts ≡ []) (into_iter_items l.passes);
  left : into_iter_len l.passes + length l.yielded ≡ vec_len l.fn.links;
}
