-- so many passes are told of, and so many rests are left
use Rattle.std.proofs.Common.{◌≡◌, ◌≤◌, ◌+◌, ◌++◌, length, vec_len, vec_capacity}
use Rattle.std.specs.Vec.Iter.{into_iter_items, into_iter_len}
use Rattle.relay_rounds.proofs.LaneLemmas.{AreTogetherSoFar}
use Rattle.relay_rounds.proofs.lanes.put_together.Given as goal

abbrev pub invariant-loop-pass : goal.invariant-loop-pass
invariant-loop-pass g l = record {
  together : AreTogetherSoFar l.yielded l.fn.rests.items (into_iter_items l.rests) l.served.items;
  many : vec_len l.served ≡ length l.yielded;
  room : vec_len l.fn.passes ≤ vec_capacity l.served;
  length_is : length (into_iter_items l.rests) ≡ into_iter_len l.rests;
  shown : l.yielded ++ into_iter_items l.pass-iterator ≡ l.fn.passes.items;
  pass_length : length (into_iter_items l.pass-iterator) ≡ into_iter_len l.pass-iterator;
  left : into_iter_len l.rests + length l.yielded ≡ vec_len l.fn.passes;
}
