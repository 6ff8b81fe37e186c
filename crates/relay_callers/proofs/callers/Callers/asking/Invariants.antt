-- No caller below the number asks.
use Rattle.std.proofs.Common.{◌≡◌, ℕ, ◌<◌, None}
use Rattle.relay_callers.specs.Callers.{asked_at}
use Rattle.relay_callers.proofs.callers.Callers.asking.Given as goal

abbrev pub invariant-loop-number : goal.invariant-loop-number
invariant-loop-number g l = (k : ℕ) → k < l.number → asked_at l.self.seats.items k ≡ None
