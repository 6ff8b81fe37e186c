use Rattle.std.proofs.Common.{◌≡◌, vec_len}
use Rattle.relay_callers.proofs.callers.Callers.new.Given as goal

abbrev pub invariant-loop : goal.invariant-loop
invariant-loop g l = vec_len l.seats ≡ l.counter
