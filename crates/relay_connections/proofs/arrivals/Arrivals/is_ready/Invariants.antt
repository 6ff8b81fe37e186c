-- of none of those that were passed over octets may be read
use Rattle.std.proofs.Common.{ℕ, ◌<◌}
use Rattle.relay_connections.specs.Arrivals.{IsReadable, arrivals_of}
use Rattle.relay_connections.proofs.arrivals.Arrivals.is_ready.Given as goal

abbrev pub invariant-loop-number : goal.invariant-loop-number
invariant-loop-number g l = (number : ℕ) → number < l.number → IsReadable (arrivals_of l.self) number → ⊥
