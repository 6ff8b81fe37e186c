-- One lane more has let go.
use Rattle.std.proofs.Common.{◌∙◌}
use Rattle.relay_next_hops.proofs.ListingLemmas.{kept_then}
use Rattle.relay_next_hops.proofs.lanes.Lanes.let_go.Goals as goal

pub loop-number-preserved : goal.loop-number-preserved
loop-number-preserved c = record {
  counts = record {
    places = c.let_go_of.ensures.counts.places ∙ c.loop-number.invariant.counts.places;
    held = c.let_go_of.ensures.counts.held ∙ c.loop-number.invariant.counts.held;
    runs = λ number. c.let_go_of.ensures.counts.runs number ∙ c.loop-number.invariant.counts.runs number;
  };
  kept = kept_then c.args.self.now c.loop-number.self c.let_go_of.new.self c.loop-number.invariant.kept c.let_go_of.ensures.kept;
  numbers = record {
    next = c.let_go_of.ensures.numbers.next ∙ c.loop-number.invariant.numbers.next;
    all = c.let_go_of.ensures.numbers.all ∙ c.loop-number.invariant.numbers.all;
  };
  listing = c.let_go_of.ensures.listing ∙ c.loop-number.invariant.listing;
  walk = c.let_go_of.ensures.walk ∙ c.loop-number.invariant.walk;
}
