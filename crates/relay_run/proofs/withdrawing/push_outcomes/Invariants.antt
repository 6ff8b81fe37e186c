-- the results so far have outcomes, and there is room for those of the others
use Rattle.std.proofs.Common.{◌≡◌, ◌++◌, map, take, vec_capacity}
use Rattle.relay_run.specs.Withdrawing.{outcome_of}
use Rattle.relay_run.proofs.withdrawing.push_outcomes.Given as goal

abbrev pub invariant-loop-each : goal.invariant-loop-each
invariant-loop-each l = record {
  items : l.outcomes.items ≡ l.fn.outcomes.items ++ map outcome_of (take l.each-index l.results);
  room : vec_capacity l.outcomes ≡ vec_capacity l.fn.outcomes;
}
