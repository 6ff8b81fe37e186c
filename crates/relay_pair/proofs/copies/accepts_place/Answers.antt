use Rattle.std.proofs.Common.{◌<◌, length, arith}
use Rattle.relay_pair.proofs.CopyLemmas.{found_here, none_answered, none_tried, not_here}
use Rattle.relay_pair.proofs.copies.accepts_place.Goals as goal

pub bounds-places-index : goal.bounds-places-index
bounds-places-index c = omega (arith, c.loop-index.invariant.within, c.if-index-places.false)

pub returns-then-index-places : goal.returns-then-index-places
returns-then-index-places c =
    none_tried c.args.place c.loop-index.index c.args.places.now c.args.replies.now (omega (arith, c.if-index-places.true))
    c.loop-index.invariant.left

pub returns-then-accepts : goal.returns-then-accepts
returns-then-accepts c =
    found_here c.args.place c.loop-index.index c.args.places.now c.args.replies.now c.index-replies-index.result
    (omega (arith, c.loop-index.invariant.within, c.if-index-places.false)) c.loop-index-test.true c.accepts.result
    c.index-replies-index.is c.accepts.ensures c.if-accepts.true c.loop-index.invariant.left

pub loop-index-preserved : goal.loop-index-preserved
loop-index-preserved c =
    let within : c.loop-index.index < length c.args.places.now =
    omega (arith, c.loop-index.invariant.within, c.if-index-places.false) in
    record {
      within = omega (arith, within);
      left = not_here c.args.place c.loop-index.index c.args.places.now c.args.replies.now c.index-replies-index.result within
          c.loop-index-test.true c.accepts.result c.index-replies-index.is c.accepts.ensures c.if-accepts.false
          c.loop-index.invariant.left;
    }

pub returns : goal.returns
returns c =
    none_answered c.args.place c.loop-index.index c.args.places.now c.args.replies.now (omega (arith, c.loop-index-test.false))
    c.loop-index.invariant.left
