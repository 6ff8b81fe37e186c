-- what is listed stays so
use Rattle.std.proofs.Common.{◌≡◌}
use Rattle.relay_next_hops.specs.Known.{KeepsNumbers}
use Rattle.relay_next_hops.specs.Lanes.{KeepsCounts}
use Rattle.relay_next_hops.specs.Listing.{KeepsListed}
use Rattle.relay_next_hops.proofs.lanes.Lanes.let_go.Given as goal

abbrev pub invariant-loop-number : goal.invariant-loop-number
invariant-loop-number l = record {
  counts : KeepsCounts l.initial.self l.self;
  kept : KeepsListed l.initial.self l.self;
  numbers : KeepsNumbers l.initial.self l.self;
  listing : l.self.is_listing ≡ l.initial.self.is_listing;
  walk : l.self.queued ≡ l.initial.self.queued;
}
