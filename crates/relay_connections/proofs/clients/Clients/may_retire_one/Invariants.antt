-- none of those that were passed over may be ended
use Rattle.std.proofs.Common.{ℕ, ◌<◌}
use Rattle.relay_connections.specs.Sessions.{MayRetire}
use Rattle.relay_connections.proofs.clients.Clients.may_retire_one.Given as goal

abbrev pub invariant-loop-number : goal.invariant-loop-number
invariant-loop-number g l = (number : ℕ) → number < l.number → MayRetire l.self l.relay number → ⊥
