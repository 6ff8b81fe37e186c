-- Numbers in a list: so many can't be all numbers up to theirs.
use Rattle.std.proofs.Common.{◌≡◌, ◌⊎◌, inl, inr, ℕ, zero, suc, ◌+◌, ◌<◌, ◌≤◌, Bool, true, false, ◌==◌, List, [], ◌∷◌, length, Contains, refl, sym, ap, subst, ◌∙◌, arith, if◌then◌else◌}
use Rattle.std.proofs.lemmas.Bool.{eqb-true, eq-eqb}
use Rattle.relay_report.proofs.NumberLemmas.{none_in, one_of, here, later}

-- the list without the number's first place
abbrev without : ℕ → List ℕ → List ℕ
without number [] = []
without number (x ∷ xs) = if x == number then xs else x ∷ without number xs

without_here : (number x : ℕ) (xs : List ℕ) → (x == number) ≡ true → without number (x ∷ xs) ≡ xs
without_here number x xs e = rw e refl

without_there : (number x : ℕ) (xs : List ℕ) → (x == number) ≡ false → without number (x ∷ xs) ≡ x ∷ without number xs
without_there number x xs e = rw e refl

differ : (x number : ℕ) → (x == number) ≡ false → x ≡ number → ⊥
differ x number e same = absurd_of (eq-eqb x number same)
  where
    absurd_of : (x == number) ≡ true → ⊥
    absurd_of f = (cc)

one_less : (number : ℕ) (xs : List ℕ) → Contains xs number → length xs ≡ length (without number xs) + 1
one_less number [] has = absurd (none_in number has)
one_less number (x ∷ xs) has = by (x == number) refl (one_less number xs)
  where
    in_rest : (x == number) ≡ false → (x ≡ number) ⊎ Contains xs number → Contains xs number
    in_rest e (inl same) = absurd (differ x number e same)
    in_rest e (inr is) = is

    by : (b : Bool) → (x == number) ≡ b → (Contains xs number → length xs ≡ length (without number xs) + 1) → length (x ∷ xs) ≡ length (without number (x ∷ xs)) + 1
    by true e again = omega (arith, ap length (without_here number x xs e))
    by false e again = omega (arith, again (in_rest e (one_of x number xs has)), ap length (without_there number x xs e))

others_stay : (number other : ℕ) (xs : List ℕ) → (other ≡ number → ⊥) → Contains xs other → Contains (without number xs) other
others_stay number other [] not_same has = absurd (none_in other has)
others_stay number other (x ∷ xs) not_same has = by (x == number) refl (one_of x other xs has) (others_stay number other xs not_same)
  where
    by : (b : Bool) → (x == number) ≡ b → (x ≡ other) ⊎ Contains xs other → (Contains xs other → Contains (without number xs) other) → Contains (without number (x ∷ xs)) other
    by true e (inl same) again = absurd (not_same (sym same ∙ eqb-true x number e))
    by true e (inr is) again = subst (λ l. Contains l other) (sym (without_here number x xs e)) is
    by false e (inl same) again = subst (λ l. Contains l other) (sym (without_there number x xs e)) (subst (Contains (x ∷ without number xs)) same (here x (without number xs)))
    by false e (inr is) again = subst (λ l. Contains l other) (sym (without_there number x xs e)) (later x other (without number xs) (again is))

-- a list of all numbers below a number has at least so many
pub all_below_are_many : (count : ℕ) (xs : List ℕ) → ((k : ℕ) → k < count → Contains xs k) → count ≤ length xs
all_below_are_many zero xs all = omega arith
all_below_are_many (suc count) xs all = omega (arith, all_below_are_many count (without count xs) below, one_less count xs (all count (omega arith)))
  where
    below : (k : ℕ) → k < count → Contains (without count xs) k
    below k low = others_stay count k xs (λ same. omega (arith, low, same)) (all k (omega (arith, low)))
