-- so far it is not after the given tick, nor after that at which one of those that were passed over is closed
use Rattle.std.proofs.Common.{◌≡◌, ◌⊎◌, ◌≤◌, ◌<◌, ℕ}
use Rattle.relay_slots.specs.Slots.{slot_at}
use Rattle.relay_connections.specs.Arrivals.{IsDueAt, Within, arrivals_of}
use Rattle.relay_connections.proofs.arrivals.Arrivals.next_deadline.Given as goal

abbrev pub invariant-loop-slot : goal.invariant-loop-slot
invariant-loop-slot g l = record {
  within : l.next ≤ l.otherwise;
  one : (l.next ≡ l.otherwise) ⊎ IsDueAt l.next (arrivals_of l.self);
  each : (number : ℕ) → number < l.slot-index → Within l.next (slot_at (arrivals_of l.self) number);
}
