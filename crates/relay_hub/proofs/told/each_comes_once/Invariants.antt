-- so it is of the numbers so far
use Rattle.std.specs.Prelude.{◌≡◌, ◌≤◌, ◌<◌, ℕ}
use Rattle.relay_hub.specs.Receipts.{times}
use Rattle.relay_hub.proofs.told.each_comes_once.Given as goal

abbrev pub invariant-loop-number : goal.invariant-loop-number
invariant-loop-number g l = (number : ℕ) → l.first ≤ number → number < l.number → times number l.passes ≡ 1
