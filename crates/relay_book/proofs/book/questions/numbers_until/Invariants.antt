-- the numbers of the keys so far are there
use Rattle.std.proofs.Common.{ℕ, map, nat_cmp, Contains}
use Rattle.std.specs.BTreeSet.{IsOrdered}
use Rattle.relay_book.proofs.book.questions.numbers_until.Given as goal

abbrev pub invariant-loop-key : goal.invariant-loop-key
invariant-loop-key l =
    IsOrdered nat_cmp l.numbers × ((key : ℕ × ℕ) → Contains {X = ℕ × ℕ} (map (λ seen. seen.now) l.yielded) key → Contains l.numbers.keys key.1)
