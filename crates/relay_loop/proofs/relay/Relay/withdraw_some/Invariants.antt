-- the messages so far have their results, and there is room for those of the others
use Rattle.std.proofs.Common.{◌+◌, ◌-◌, ◌≤◌, length, map, take}
use Rattle.std.specs.Vec.{vec_capacity, vec_len}
use Rattle.relay_loop.specs.Withdrawing.{choice_of}
use Rattle.relay_loop.proofs.WithdrawingLemmas.{Goes}
use Rattle.relay_loop.proofs.relay.Relay.withdraw_some.Given as goal

abbrev pub invariant-loop-places : goal.invariant-loop-places
invariant-loop-places g l = record {
  goes : Goes g.D.Disk.honest g.D.Disk.words l.now l.withdrawal l.initial.self l.initial.row (map choice_of (take l.places-index l.chosen)) l.results.items l.self l.row;
  room : vec_len l.results + (length l.chosen - l.places-index) ≤ vec_capacity l.results;
}
