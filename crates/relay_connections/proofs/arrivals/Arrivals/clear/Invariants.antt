-- nothing stands in the slots that were passed over, nor after the last that stood
use Rattle.std.proofs.Common.{◌≡◌, ◌≤◌, ◌<◌, ℕ, None}
use Rattle.relay_slots.specs.Slots.{slot_at}
use Rattle.relay_connections.proofs.arrivals.Arrivals.clear.Given as goal

abbrev pub invariant-loop-number : goal.invariant-loop-number
invariant-loop-number g l = record {
  none : (number : ℕ) → number < l.number → slot_at l.self.arrivals number ≡ None;
  rest : (number : ℕ) → l.count ≤ number → slot_at l.self.arrivals number ≡ None;
}
