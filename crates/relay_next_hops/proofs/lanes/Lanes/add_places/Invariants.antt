-- no lane is lost, what was listed stays so, and the places so far are
use Rattle.std.proofs.Common.{◌≡◌}
use Rattle.relay_next_hops.specs.Known.{KeepsNumbers}
use Rattle.relay_next_hops.specs.Lanes.{ListsMore, OpensForMore}
use Rattle.relay_next_hops.specs.Listing.{ArePlacesListed, KeepsListed}
use Rattle.relay_next_hops.proofs.lanes.Lanes.add_places.Given as goal

abbrev pub invariant-loop-index : goal.invariant-loop-index
invariant-loop-index g l = record {
  more : ListsMore l.initial.self l.self;
  kept : KeepsListed l.initial.self l.self;
  listed : ArePlacesListed l.hops.hops l.now.moment l.routes l.number l.accept l.places l.index l.self;
  numbers : KeepsNumbers l.initial.self l.self;
  opens : OpensForMore l.initial.self l.self;
  walk : (l.self.queued ≡ l.initial.self.queued) × (l.self.is_listing ≡ l.initial.self.is_listing);
}
