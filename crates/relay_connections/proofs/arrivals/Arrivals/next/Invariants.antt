-- those that were passed over wait on, and the others are as before
use Rattle.std.proofs.Common.{◌≡◌, ◌<◌, ◌≤◌, ℕ}
use Rattle.relay_slots.specs.Slots.{slot_at}
use Rattle.relay_connections.specs.Arrivals.{WaitsOn, arrivals_of}
use Rattle.relay_connections.proofs.arrivals.Arrivals.next.Given as goal

abbrev pub invariant-loop-number : goal.invariant-loop-number
invariant-loop-number g l = record {
  done : (number : ℕ) → number < l.number
      → WaitsOn g.S.Stream.remaining g.S.Stream.contents l.now.tick (slot_at (arrivals_of l.fn.self) number) (slot_at (arrivals_of l.self) number);
  left : (number : ℕ) → l.number ≤ number → slot_at (arrivals_of l.self) number ≡ slot_at (arrivals_of l.fn.self) number;
}
