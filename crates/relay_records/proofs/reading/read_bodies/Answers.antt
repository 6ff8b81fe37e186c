-- One body more was read, or is the first that wasn't.
use Rattle.std.proofs.Common.{◌+◌, ℕ, List, [], ◌∷◌, map, sym, ◌∙◌, subst, arith, rules, length-append}
use Rattle.std.proofs.lemmas.List.{length-map, map-append}
use Rattle.std.specs.Vec.Iter.{into_iter_items}
use Rattle.relay_pieces.specs.Pieces.{text_of}
use Rattle.relay_book.specs.StandsFor.{ReadsAll}
use Rattle.relay_records.specs.Reading.{ReadsAt, ReadsNoneAt}
use Rattle.relay_records.proofs.ReadLemmas.{all_more, is_bad, texts_around}
use Rattle.relay_records.proofs.reading.read_bodies.Goals as goal

pub loop-body-preserved : goal.loop-body-preserved
loop-body-preserved c =
    let given = c.loop-body.yielded in
    let body = c.in-Some.body in
    let texts = map text_of given in
    let long = length-append given (body ∷ []) in
    let many = length-map given text_of in
    let counted = c.loop-body.invariant.counted in
    let reads = subst (λ (n : ℕ). ReadsAt n c.loop-body.book.queue (text_of body) c.in-Ok.left.queue) (counted ∙ sym many) c.in-Ok.ensures.reads in
    record {
      counted = omega (arith, long, counted);
      reads = subst (λ (bodies : List (List ℕ)). ReadsAll bodies c.in-Ok.left.queue) (sym (map-append text_of given (body ∷ [])))
          (all_more texts (text_of body) c.loop-body.book.queue c.in-Ok.left.queue c.loop-body.invariant.reads reads);
    }

pub returns-in-Err-BadRecord-clause-refused : goal.returns-in-Err-BadRecord-clause-refused
returns-in-Err-BadRecord-clause-refused c =
    let given = c.loop-body.yielded in
    let body = c.in-Some.body in
    let texts = map text_of given in
    let many = length-map given text_of in
    let counted = c.loop-body.invariant.counted in
    let none : ReadsNoneAt c.loop-body.before c.loop-body.book.queue (text_of body) = search rules in
    is_bad texts (text_of body) (map text_of (into_iter_items c.next.new.self)) _ (c.loop-body.before + 1) c.loop-body.book.queue
    c.loop-body.invariant.reads
    (texts_around c.args.bodies.items c.into_iter-body-iterator.result c.loop-body.body-iterator c.next.new.self given body
    c.into_iter-body-iterator.ensures.into_iter_gives.0 c.loop-body.yielded_by c.in-Some.ensures.steps.0)
    (omega (arith, many, counted))
    (subst (λ (n : ℕ). ReadsNoneAt n c.loop-body.book.queue (text_of body)) (counted ∙ sym many) none)
