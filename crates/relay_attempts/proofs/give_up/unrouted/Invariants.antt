-- the verdicts so far, and those to come
use Rattle.std.proofs.Common.{◌≡◌, ◌++◌, drop}
use Rattle.relay_attempts.specs.Outcomes.{unrouted}
use Rattle.relay_attempts.proofs.give_up.unrouted.Given as goal

abbrev pub invariant-loop-place : goal.invariant-loop-place
invariant-loop-place l = l.rulings ++ unrouted (drop l.place-index l.places) ≡ unrouted l.places
