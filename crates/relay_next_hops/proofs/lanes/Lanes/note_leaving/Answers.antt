-- One lane more was counted again.
use Rattle.std.proofs.Common.{◌∙◌, refl, arith}
use Rattle.relay_connections.specs.Leaving.{goes_to, leavers_of}
use Rattle.relay_connections.specs.Table.{count_of_such}
use Rattle.relay_next_hops.proofs.RecountLemmas.{counted_next, counted_none, opened_next}
use Rattle.relay_next_hops.proofs.lanes.Lanes.note_leaving.Goals as goal

pub loop-number-init : goal.loop-number-init
loop-number-init g c = record {
  counts = record { places = refl; held = refl; runs = λ number. refl };
  counted = counted_none (λ lane. count_of_such (goes_to lane) (leavers_of c.args.leaving.now)) c.args.self.now.paces;
  opened = λ lane low some. absurd (omega (arith, low));
  tasks = refl;
  within = omega arith;
}

pub loop-number-preserved : goal.loop-number-preserved
loop-number-preserved g c = record {
  counts = record {
    places = c.recount.ensures.counts.places ∙ c.loop-number.invariant.counts.places;
    held = c.recount.ensures.counts.held ∙ c.loop-number.invariant.counts.held;
    runs = λ number. c.recount.ensures.counts.runs number ∙ c.loop-number.invariant.counts.runs number;
  };
  counted = counted_next (λ lane. count_of_such (goes_to lane) (leavers_of c.args.leaving.now)) c.args.self.now.paces c.loop-number.self.paces c.recount.new.self.paces c.loop-number.number c.loop-number.invariant.counted c.recount.ensures.paces;
  opened = opened_next c.args.self.now.paces c.loop-number.self c.recount.new.self c.loop-number.number c.loop-number.invariant.counted.1 c.recount.ensures.opened c.recount.ensures.stays c.loop-number.invariant.opened;
  tasks = c.recount.ensures.tasks ∙ c.loop-number.invariant.tasks;
  within = omega (arith, c.loop-number-test.true, c.len-number-end.ensures);
}

pub returns-clause-recounts : goal.returns-clause-recounts
returns-clause-recounts g c = record {
  counted = λ lane low. c.loop-number.invariant.counted.0 lane (omega (arith, low, c.loop-number-test.false, c.len-number-end.ensures));
  others = λ lane high. c.loop-number.invariant.counted.1 lane (omega (arith, high, c.loop-number.invariant.within));
  opened = λ lane low. c.loop-number.invariant.opened lane (omega (arith, low, c.loop-number-test.false, c.len-number-end.ensures));
  tasks = c.loop-number.invariant.tasks;
}
