-- so many lanes are taken apart
use Rattle.std.proofs.Common.{◌≡◌, ◌≤◌, length, vec_len, vec_capacity}
use Rattle.relay_rounds.specs.Round.{AreApart}
use Rattle.relay_rounds.proofs.lanes.take_apart.Given as goal

abbrev pub invariant-loop-lane : goal.invariant-loop-lane
invariant-loop-lane g l = record {
  apart : AreApart l.yielded l.passes.items l.rests.items;
  passes : vec_len l.passes ≡ length l.yielded;
  rests : vec_len l.rests ≡ length l.yielded;
  room : vec_len l.fn.lanes ≤ vec_capacity l.passes;
  room_for_rests : vec_len l.fn.lanes ≤ vec_capacity l.rests;
}
