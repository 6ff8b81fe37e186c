-- those that were passed over are counted and listed, and what was listed stays so
use Rattle.std.proofs.Common.{◌≡◌, ◌<◌, ◌≤◌, ℕ, true, Some, take}
use Rattle.std.specs.Prelude.{count_by, option_copied, slice_get}
use Rattle.relay_next_hops.specs.Lanes.{ListsMore}
use Rattle.relay_next_hops.specs.Listing.{KeepsListed}
use Rattle.relay_next_hops.specs.Steering.{EndsHold, IsFlushed, is_flushed}
use Rattle.relay_next_hops.proofs.lanes.Lanes.flush_each.Given as goal

abbrev pub invariant-loop-mark : goal.invariant-loop-mark
invariant-loop-mark g l = record {
  more : ListsMore l.initial.self l.self;
  kept : KeepsListed l.initial.self l.self;
  few : l.count ≤ l.mark-index;
  counted : l.count
      ≡ count_by (is_flushed l.relay.node l.initial.self.held (option_copied l.scope)) (take l.mark-index l.marks);
  each : (step : ℕ) (mark : ℕ × ℕ) → step < l.mark-index → slice_get l.marks step ≡ Some mark
      → is_flushed l.relay.node l.initial.self.held (option_copied l.scope) mark ≡ true
      → IsFlushed l.relay.node l.hops.hops mark l.self;
  off_hold : (step : ℕ) (mark : ℕ × ℕ) → step < l.mark-index → slice_get l.marks step ≡ Some mark
      → is_flushed l.relay.node l.initial.self.held (option_copied l.scope) mark ≡ true
      → EndsHold l.relay.node l.now.tick mark l.self;
  opened : 0 < l.count → l.self.is_open ≡ true;
}
