-- nothing stands in the slots that were passed over, nor after the last that stood, and the rules stay
use Rattle.std.proofs.Common.{◌≡◌, ◌≤◌, ◌<◌, ℕ, None}
use Rattle.relay_slots.specs.Slots.{slot_at}
use Rattle.relay_connections.specs.Welcome.{KeepsRules}
use Rattle.relay_connections.proofs.clients.Clients.clear.Given as goal

abbrev pub invariant-loop-number : goal.invariant-loop-number
invariant-loop-number g l = record {
  none : (number : ℕ) → number < l.number → slot_at l.self.clients number ≡ None;
  rest : (number : ℕ) → l.count ≤ number → slot_at l.self.clients number ≡ None;
  rules : KeepsRules l.fn.self l.self;
}
