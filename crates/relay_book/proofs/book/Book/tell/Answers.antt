use Rattle.std.proofs.Common.{ℕ, List, sym, subst, ap, Contains, nat_cmp}
use Rattle.std.proofs.lemmas.Map.Lookups.{exact_pairs, exact_unsigned}
use Rattle.relay_book.specs.Book.{Shown, live}
use Rattle.relay_book.proofs.ToldLemmas.{all_told_insert, insert_has, insert_keeps}
use Rattle.relay_book.proofs.book.Book.tell.Goals as goal

pub invariant_of-self-2 : goal.invariant_of-self-2
invariant_of-self-2 c = (
  c.self.invariant.0,
  all_told_insert _ c.self.inside.waiting.keys c.insert.new.self.keys (c.args.due, c.args.number) (live c.self.inside.messages.entries) c.in_ok-insert.ensures.keys c.self.invariant.1,
)

pub returns-clause-told : goal.returns-clause-told
returns-clause-told c =
    subst (λ (l : List (ℕ × ℕ)). Contains {X = ℕ × ℕ} l (c.args.due, c.args.number)) (sym c.in_ok-insert.ensures.keys)
    (insert_has _ (exact_pairs nat_cmp nat_cmp exact_unsigned exact_unsigned) c.self.inside.waiting.keys (c.args.due, c.args.number))

pub returns-clause-kept : goal.returns-clause-kept
returns-clause-kept c =
    λ key h.
    subst (λ (l : List (ℕ × ℕ)). Contains l key) (sym c.in_ok-insert.ensures.keys)
    (insert_keeps _ c.self.inside.waiting.keys (c.args.due, c.args.number) key
    (subst (λ (l : List (ℕ × ℕ)). Contains l key) (sym (ap (λ (s : Shown). s.told) c.self.view_is)) h))
