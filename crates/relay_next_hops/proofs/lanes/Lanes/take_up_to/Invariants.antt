-- no lane is lost, what was listed stays so, and the messages so far are
use Rattle.std.proofs.Common.{◌≡◌, false}
use Rattle.relay_next_hops.specs.Known.{AreKnown}
use Rattle.relay_next_hops.specs.Lanes.{ListsMore, OpensForMore}
use Rattle.relay_next_hops.specs.Listing.{AreListedFrom, KeepsListed}
use Rattle.relay_next_hops.proofs.lanes.Lanes.take_up_to.Given as goal

abbrev pub invariant-loop-number : goal.invariant-loop-number
invariant-loop-number g l = record {
  more : ListsMore l.initial.self l.self;
  kept : KeepsListed l.initial.self l.self;
  listed : AreListedFrom l.hops.hops l.now.moment l.relay.node l.initial.self.next_number l.number l.self;
  opens : OpensForMore l.initial.self l.self;
  next : l.self.next_number ≡ l.initial.self.next_number;
  known : AreKnown l.relay.node l.initial.self.next_number l.initial.self → AreKnown l.relay.node l.number l.self;
  all : l.initial.self.knows_all ≡ false → l.self.knows_all ≡ false;
  left : l.self.queued.left ≡ l.initial.self.queued.left;
  listing : l.self.is_listing ≡ l.initial.self.is_listing;
}
