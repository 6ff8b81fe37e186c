-- One lane more is taken apart.
use Rattle.std.proofs.Common.{[], ◌∷◌, ◌++◌, arith, length-append}
use Rattle.relay_rounds.specs.Round.{AreApart}
use Rattle.relay_rounds.proofs.LaneLemmas.{apart_on}
use Rattle.relay_rounds.proofs.lanes.take_apart.Goals as goal

pub loop-lane-preserved : goal.loop-lane-preserved
loop-lane-preserved g c =
    let i = c.loop-lane.invariant in
    let all = c.loop-lane.yielded ++ c.in-Some.lane ∷ [] in
    let more : AreApart all (c.loop-lane.passes.items ++ c.into_parts-pass.result.0 ∷ []) (c.loop-lane.rests.items ++ c.into_parts-pass.result.1 ∷ []) =
    apart_on c.loop-lane.yielded c.loop-lane.passes.items c.loop-lane.rests.items c.in-Some.lane c.into_parts-pass.result.0 c.into_parts-pass.result.1 i.apart c.into_parts-pass.ensures.pass c.into_parts-pass.ensures.rest in
    let long = length-append c.loop-lane.yielded (c.in-Some.lane ∷ []) in
    record {
      apart = rw (c.put.ensures.items, c.put-in-loop-lane.ensures.items) more;
      passes = omega (arith, long, c.put.ensures.many);
      rests = omega (arith, long, c.put-in-loop-lane.ensures.many);
      room = omega arith;
      room_for_rests = omega arith;
    }
