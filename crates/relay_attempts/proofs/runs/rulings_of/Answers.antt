use Rattle.std.proofs.Common.{◌+◌, ◌≤◌, ◌++◌, ◌∷◌, [], List, length, get_or, sym, ap, ◌∙◌, arith}
use Rattle.std.proofs.lemmas.List.{length_push}
use Rattle.relay_book.specs.declared.change.Ruling.{Ruling}
use Rattle.relay_attempts.specs.Outcomes.{rulings_of}
use Rattle.relay_attempts.proofs.RulingLemmas.{none_ruled, ruled_all, ruled_more, ruling}
use Rattle.relay_attempts.proofs.runs.rulings_of.Goals as goal

pub loop-verdict-init : goal.loop-verdict-init
loop-verdict-init c = record {
  so_far = c.new-rulings.ensures ∙ sym (none_ruled c.args.places.now);
  index = ap length (sym (none_ruled c.args.places.now));
}

pub loop-verdict-preserved-then-index-places : goal.loop-verdict-preserved-then-index-places
loop-verdict-preserved-then-index-places c =
    let so_far = c.loop-verdict.invariant.so_far in
    let index = c.loop-verdict.invariant.index in
    let more = ruled_more c.args.places.now c.loop-verdict.yielded c.in-Some.verdict c.loop-verdict.index index c.if-index-places.true in
    let one : Ruling = ruling (get_or c.args.places.now c.loop-verdict.index 0) c.in-Some.verdict in
    record {
      so_far = c.in_ok-push.ensures.ok ∙ ap (λ (l : List Ruling). l ++ one ∷ []) so_far ∙ sym more;
      index = ap (λ n. n + 1) index ∙ sym (length_push (rulings_of c.args.places.now c.loop-verdict.yielded) one) ∙ ap length (sym more);
    }

pub loop-verdict-preserved-else-index-places : goal.loop-verdict-preserved-else-index-places
loop-verdict-preserved-else-index-places c =
    let so_far = c.loop-verdict.invariant.so_far in
    let index = c.loop-verdict.invariant.index in
    let past : length c.args.places.now ≤ length (rulings_of c.args.places.now c.loop-verdict.yielded) = omega (arith, index, c.if-index-places.false) in
    let all = ruled_all c.args.places.now c.loop-verdict.yielded c.in-Some.verdict past in
    record { so_far = so_far ∙ sym all; index = index ∙ ap length (sym all) }

pub loop-verdict-preserved : goal.loop-verdict-preserved
loop-verdict-preserved c =
    let so_far = c.loop-verdict.invariant.so_far in
    let index = c.loop-verdict.invariant.index in
    let past : length c.args.places.now ≤ length (rulings_of c.args.places.now c.loop-verdict.yielded) = omega (arith, index, c.if-index-places.false) in
    let all = ruled_all c.args.places.now c.loop-verdict.yielded c.in-Some.verdict past in
    record { so_far = so_far ∙ sym all; index = index ∙ ap length (sym all) }
