-- One link more has its lane.
use Rattle.std.proofs.Common.{◌≡◌, [], ◌∷◌, ◌++◌, List, arith, subst, length-append}
use Rattle.std.specs.List.{AllByRecursion}
use Rattle.relay_hub.specs.declared.receipt.Receipt.{Receipt}
use Rattle.relay_rounds.specs.Round.{IsLaneOf}
use Rattle.relay_rounds.specs.Row.{EachIs}
use Rattle.relay_rounds.proofs.RowLemmas.{each_on}
use Rattle.relay_rounds.proofs.lanes.lanes_of.Goals as goal

pub into_lane-requires : goal.into_lane-requires
into_lane-requires g c = let fresh = subst (AllByRecursion (λ (receipts : List Receipt). receipts ≡ [])) c.in-Some-next.ensures.items c.loop-link.invariant.fresh in fresh.0

pub loop-link-preserved : goal.loop-link-preserved
loop-link-preserved g c =
    let i = c.loop-link.invariant in
    let all = c.loop-link.yielded ++ c.in-Some.link ∷ [] in
    let fresh = subst (AllByRecursion (λ (receipts : List Receipt). receipts ≡ [])) c.in-Some-next.ensures.items i.fresh in
    let more : EachIs IsLaneOf all (c.loop-link.lanes.items ++ c.into_lane.result ∷ []) = each_on IsLaneOf c.loop-link.yielded c.loop-link.lanes.items c.in-Some.link c.into_lane.result i.lanes c.into_lane.ensures in
    let long = length-append c.loop-link.yielded (c.in-Some.link ∷ []) in
    record {
      lanes = rw c.put.ensures.items more;
      many = omega (arith, long, c.put.ensures.many);
      room = omega arith;
      fresh = fresh.1;
      left = omega (arith, long, c.in-Some-next.ensures.len);
    }
