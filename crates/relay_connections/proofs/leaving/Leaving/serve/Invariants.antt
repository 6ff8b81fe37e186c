-- those that were passed over stay or are closed, and the others are as before
use Rattle.std.proofs.Common.{◌≡◌, ◌+◌, ◌<◌, ◌≤◌, ℕ}
use Rattle.relay_slots.specs.Slots.{slot_at}
use Rattle.relay_connections.specs.Leaving.{StaysOrCloses, leavers_of}
use Rattle.relay_connections.specs.Table.{count_of}
use Rattle.relay_connections.proofs.leaving.Leaving.serve.Given as goal

abbrev pub invariant-loop-number : goal.invariant-loop-number
invariant-loop-number g l = record {
  few : l.closed ≤ l.number;
  count : l.closed + count_of (leavers_of l.self) ≡ count_of (leavers_of l.fn.self);
  done : (number : ℕ) → number < l.number
      → StaysOrCloses g.S.Stream.remaining g.S.Stream.contents l.now.tick (slot_at (leavers_of l.fn.self) number) (slot_at (leavers_of l.self) number);
  left : (number : ℕ) → l.number ≤ number → slot_at (leavers_of l.self) number ≡ slot_at (leavers_of l.fn.self) number;
}
