-- the numbers so far are there
use Rattle.std.proofs.Common.{ℕ, map, take, nat_cmp, Contains}
use Rattle.std.specs.BTreeSet.{IsOrdered}
use Rattle.relay_attempts.proofs.gathering.gathered.Given as goal

abbrev pub invariant-loop-mark : goal.invariant-loop-mark
invariant-loop-mark l = record {
  rise : IsOrdered nat_cmp l.numbers;
  marked : (number : ℕ) → Contains (map (λ (mark : ℕ × ℕ). mark.0) (take l.mark-index l.marks)) number → Contains l.numbers.keys number;
}

abbrev pub invariant-loop-number : goal.invariant-loop-number
invariant-loop-number l = record {
  rise : IsOrdered nat_cmp l.numbers;
  marked : (number : ℕ) → Contains (map (λ (mark : ℕ × ℕ). mark.0) l.marks) number → Contains l.numbers.keys number;
  listed : (number : ℕ) → Contains (map (λ (n : ℕ). n) (take l.number-index l.list)) number → Contains l.numbers.keys number;
}
