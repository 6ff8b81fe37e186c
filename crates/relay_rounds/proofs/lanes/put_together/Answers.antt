-- One pass more is told of.
use Rattle.std.proofs.Common.{◌≡◌, rules, List, [], ◌∷◌, ◌++◌, ap, arith, length, length-append, append_assoc, append-nil, sym, ◌∙◌, subst, vec_len}
use Rattle.std.proofs.lemmas.List.{nil_from_length}
use Rattle.std.specs.Vec.Iter.{into_iter_items}
use Rattle.relay_hub.specs.declared.receipt.Receipt.{Receipt}
use Rattle.relay_rounds.specs.Round.{IsWith}
use Rattle.relay_rounds.proofs.LaneLemmas.{AreTogetherSoFar, all_together, together_on}
use Rattle.relay_rounds.proofs.lanes.put_together.Goals as goal

pub loop-pass-preserved : goal.loop-pass-preserved
loop-pass-preserved g c =
    let i = c.loop-pass.invariant in
    let all = c.loop-pass.yielded ++ c.in-Some.pass ∷ [] in
    let more : AreTogetherSoFar all c.args.rests.items (into_iter_items c.next-in-loop-pass.new.self) (c.loop-pass.served.items ++ c.with.result ∷ []) =
    together_on c.loop-pass.yielded c.args.rests.items (into_iter_items c.loop-pass.rests) (into_iter_items c.next-in-loop-pass.new.self) c.loop-pass.served.items c.in-Some.pass c.in-Some-next.rest c.with.result i.together c.in-Some-next.ensures.items (subst (λ (l : List Receipt). IsWith l c.in-Some-next.rest c.with.result) c.into_receipts.ensures c.with.ensures) in
    let long = length-append c.loop-pass.yielded (c.in-Some.pass ∷ []) in
    record {
      together = rw c.put.ensures.items more;
      many = omega (arith, long, c.put.ensures.many);
      room = omega arith;
      shown =
          append_assoc c.loop-pass.yielded (c.in-Some.pass ∷ []) (into_iter_items c.next.new.self)
          ∙ (ap (λ (l : List (List Receipt)). c.loop-pass.yielded ++ l) (sym c.in-Some.ensures.steps.0) ∙ i.shown);
      pass_length = omega (arith, i.pass_length, ap (λ (l : List (List Receipt)). length l) c.in-Some.ensures.steps.0, c.in-Some.ensures.steps.1);
      left = omega (arith, long, c.in-Some-next.ensures.len);
      length_is = omega (arith, i.length_is, ap (λ (l : List _). length l) c.in-Some-next.ensures.items, c.in-Some-next.ensures.len);
    }

pub returns : goal.returns
returns g c =
    let i = c.loop-pass.invariant in
    let end = nil_from_length (into_iter_items c.loop-pass.pass-iterator) (omega (arith, i.pass_length, c.in-None.ensures.steps.0)) in
    let whole : c.loop-pass.yielded ≡ c.args.passes.items = sym (append-nil c.loop-pass.yielded) ∙ (ap (λ (l : List (List Receipt)). c.loop-pass.yielded ++ l) (sym end) ∙ i.shown) in
    let many : length c.args.passes.items ≡ vec_len c.args.passes = search rules in
    let none : length (into_iter_items c.loop-pass.rests) ≡ 0 = omega (arith, i.length_is, i.left, many, ap (λ (l : List (List Receipt)). length l) whole) in
    rw (sym whole) (all_together c.loop-pass.yielded c.args.rests.items c.loop-pass.served.items (into_iter_items c.loop-pass.rests) i.together (nil_from_length (into_iter_items c.loop-pass.rests) none))
