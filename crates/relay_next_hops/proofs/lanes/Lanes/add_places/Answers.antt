-- The next place is listed, and all that was stays so.
use Rattle.std.proofs.Common.{◌∙◌}
use Rattle.std.specs.Prelude.{slice_index_or}
use Rattle.relay_next_hops.proofs.ListingLemmas.{get_at, kept_then, more_then, places_next}
use Rattle.relay_next_hops.proofs.KnownLemmas.{opens_then}
use Rattle.relay_next_hops.proofs.lanes.Lanes.add_places.Goals as goal

pub loop-index-preserved : goal.loop-index-preserved
loop-index-preserved g c = record {
  more = more_then c.args.self.now c.loop-index.self c.add_place.new.self c.loop-index.invariant.more c.add_place.ensures.more;
  kept = kept_then c.args.self.now c.loop-index.self c.add_place.new.self c.loop-index.invariant.kept c.add_place.ensures.kept;
  listed = places_next c.loop-index.self c.add_place.new.self c.add_place.ensures.more c.add_place.ensures.kept c.args.hops.now.hops c.args.now.now.moment c.args.routes.now c.args.number c.args.accept.now c.args.places.now c.loop-index.index (slice_index_or c.args.places.now c.loop-index.index _) (get_at c.args.places.now c.loop-index.index _ c.loop-index-test.true) c.loop-index.invariant.listed c.add_place.ensures.listed;
  numbers = record {
    next = c.add_place.ensures.numbers.next ∙ c.loop-index.invariant.numbers.next;
    all = c.add_place.ensures.numbers.all ∙ c.loop-index.invariant.numbers.all;
  };
  opens = opens_then c.args.self.now c.loop-index.self c.add_place.new.self c.loop-index.invariant.opens c.add_place.ensures.opens;
  walk = (c.add_place.ensures.walk.0 ∙ c.loop-index.invariant.walk.0, c.add_place.ensures.walk.1 ∙ c.loop-index.invariant.walk.1);
}
