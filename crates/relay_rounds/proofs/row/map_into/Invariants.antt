-- so many have been made
use Rattle.std.proofs.Common.{◌≡◌, ◌≤◌, ℕ, length, vec_len, vec_capacity}
use Rattle.relay_rounds.specs.Row.{EachIs}
use Rattle.relay_rounds.proofs.row.map_into.Given as goal

abbrev pub invariant-loop-one : goal.invariant-loop-one
invariant-loop-one g l = record {
  at : l.at ≡ length l.yielded;
  each : EachIs (λ one other. (at : ℕ) × goal.F-post g l.make at one other) l.yielded l.made.items;
  many : vec_len l.made ≡ length l.yielded;
  room : vec_len l.fn.row ≤ vec_capacity l.made;
}
