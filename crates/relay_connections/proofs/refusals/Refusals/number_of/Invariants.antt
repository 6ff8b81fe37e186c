-- none of those that were passed over is of the address
use Rattle.std.proofs.Common.{◌≡◌, ◌<◌, ℕ, true}
use Rattle.relay_slots.specs.Slots.{slot_at}
use Rattle.relay_connections.specs.Refusals.{is_of}
use Rattle.relay_connections.specs.Table.{is_such}
use Rattle.relay_connections.proofs.refusals.Refusals.number_of.Given as goal

abbrev pub invariant-loop-number : goal.invariant-loop-number
invariant-loop-number l = (number : ℕ) → number < l.number → is_such (is_of l.address) (slot_at l.standing number) ≡ true → ⊥
