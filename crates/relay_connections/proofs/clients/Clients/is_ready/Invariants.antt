-- none of those that were passed over was left in mid-read
use Rattle.std.proofs.Common.{ℕ, ◌<◌}
use Rattle.relay_connections.specs.Readiness.{IsLeftClient}
use Rattle.relay_connections.proofs.clients.Clients.is_ready.Given as goal

abbrev pub invariant-loop-number : goal.invariant-loop-number
invariant-loop-number g l = (number : ℕ) → number < l.number → IsLeftClient l.self.clients l.relay number → ⊥
