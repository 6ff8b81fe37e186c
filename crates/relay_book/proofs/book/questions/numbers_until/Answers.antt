use Rattle.std.proofs.Common.{ℕ, List, sym, subst, Contains}
use Rattle.std.proofs.lemmas.Map.Iter.{iter_end}
use Rattle.relay_book.proofs.DueLemmas.{before_next, one_more_there}
use Rattle.relay_book.proofs.book.questions.numbers_until.Goals as goal

pub loop-key-preserved : goal.loop-key-preserved
loop-key-preserved c = (
  c.insert.ensures.ordered,
  one_more_there c.loop-key.yielded c.in-Some.key c.loop-key.numbers.keys c.insert.new.self.keys c.in_ok-insert.ensures.keys c.loop-key.invariant.1,
)

pub returns-clause-told : goal.returns-clause-told
returns-clause-told c = λ key below there.
    let all = (iter_end _ c.range-key-items.result c.loop-key.yielded _ _ _ _ c.into_iter-key-iterator.ensures.into_iter_gives c.loop-key.yielded_by c.in-None.is c.next.ensures.steps).0 in
    c.loop-key.invariant.1 key
    (subst (λ (l : List (ℕ × ℕ)). Contains l key) (sym all)
    (subst (λ (l : List (ℕ × ℕ)). Contains l key) (sym (c.range-key-items.ensures.between tt)) (before_next c.args.waiting.now.keys c.args.latest 0 key below there)))
