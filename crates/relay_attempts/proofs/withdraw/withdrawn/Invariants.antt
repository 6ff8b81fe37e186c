-- the verdicts so far, and those to come
use Rattle.std.proofs.Common.{◌≡◌, ◌++◌, drop}
use Rattle.relay_attempts.specs.Withdrawals.{withdrawn}
use Rattle.relay_attempts.proofs.withdraw.withdrawn.Given as goal

abbrev pub invariant-loop-place : goal.invariant-loop-place
invariant-loop-place l =
    l.rulings ++ withdrawn l.withdrawal (drop l.place-index l.places) ≡ withdrawn l.withdrawal l.places
