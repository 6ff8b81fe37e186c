-- no lane is lost, and the next messages of the walk so far are listed
use Rattle.std.proofs.Common.{◌≡◌, ◌<◌, ◌≤◌, ℕ, Some, drop}
use Rattle.std.specs.Prelude.{slice_get}
use Rattle.relay_next_hops.specs.Known.{AreKnown}
use Rattle.relay_next_hops.specs.Lanes.{ListsMore}
use Rattle.relay_next_hops.specs.Listing.{IsListed, KeepsListed}
use Rattle.relay_next_hops.proofs.lanes.Lanes.list_next.Given as goal

abbrev pub invariant-loop : goal.invariant-loop
invariant-loop g l = record {
  more : ListsMore l.initial.self l.self;
  kept : KeepsListed l.initial.self l.self;
  walk : l.self.queued.left ≡ drop l.counter l.initial.self.queued.left;
  listed : (step number : ℕ) → step < l.counter → slice_get l.initial.self.queued.left step ≡ Some number
      → IsListed l.hops.hops l.now.moment l.relay.node number l.self;
  next : l.self.next_number ≡ l.initial.self.next_number;
  listing : l.self.is_listing ≡ l.initial.self.is_listing;
  known : (next : ℕ) → AreKnown l.relay.node next l.initial.self → AreKnown l.relay.node next l.self;
  within : l.counter ≤ 512;
}
