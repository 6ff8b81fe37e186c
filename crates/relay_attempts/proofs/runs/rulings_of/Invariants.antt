use Rattle.std.proofs.Common.{◌≡◌, length}
use Rattle.relay_attempts.specs.Outcomes.{rulings_of}
use Rattle.relay_attempts.proofs.runs.rulings_of.Given as goal

abbrev pub invariant-loop-verdict : goal.invariant-loop-verdict
invariant-loop-verdict l = record {
  so_far : l.rulings ≡ rulings_of l.places l.yielded;
  index : l.index ≡ length (rulings_of l.places l.yielded);
}
