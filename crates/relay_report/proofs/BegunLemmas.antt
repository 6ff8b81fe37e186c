-- The longest number after a stem has the others in its digits.
use Rattle.std.proofs.Common.{◌≡◌, ◌⊎◌, inl, inr, ℕ, zero, suc, ◌*◌, ◌/◌, ◌<◌, ◌≤◌, ◌^◌, Bool, true, false, ◌==◌, List, [], ◌∷◌, ◌++◌, Contains, decimal, Some, None, refl, sym, ap, subst, ◌∙◌, arith, append-nil, nat_lt}
use Rattle.std.proofs.lemmas.Bool.{lt-ltb, le-ltb, ltb-false, ltb-true, eqb-true}
use Rattle.std.proofs.lemmas.List.Concat.{flat_map-cons}
use Rattle.std.specs.Option.{option_to_list}
use Rattle.relay_report.specs.Numbers.{one_more, may_grow, grown, leading, beginnings, all_begun}
use Rattle.relay_report.proofs.NumberLemmas.{growing, growing_more, growing_stops, begun, begun_zero, begun_other, begun_finds, begun_only, here, later, one_of, none_in, may_grow_says}

-- the numbers that the longest one at the beginning of the octets begins with
abbrev pub started : List ℕ → List ℕ
started octets = all_begun (option_to_list (leading octets))

-- the same numbers stand in two lists
pub record HasSame (one two : List ℕ) : Type 0 where
  pub to : (number : ℕ) → Contains one number → Contains two number
  pub back : (number : ℕ) → Contains two number → Contains one number

same_self : (xs ys : List ℕ) → xs ≡ ys → HasSame xs ys
same_self xs ys e = record {
  to = λ k has. subst (λ l. Contains l k) e has;
  back = λ k has. subst (λ l. Contains l k) (sym e) has;
}

pub beginnings_last : (digits value : ℕ) → value < 10 → beginnings (suc digits) value ≡ value ∷ []
unfolding beginnings
beginnings_last digits value low = rw (lt-ltb value 10 low) refl

pub beginnings_next : (digits value : ℕ) → 10 ≤ value → beginnings (suc digits) value ≡ value ∷ beginnings digits (value / 10)
unfolding beginnings
beginnings_next digits value high = rw (le-ltb value 10 high) refl

pub beginnings_none : (value : ℕ) → beginnings 0 value ≡ []
unfolding beginnings
beginnings_none value = refl

-- more digits than a number has give no more numbers
enough : (digits value : ℕ) → value < 10 ^ suc digits → beginnings (suc (suc digits)) value ≡ beginnings (suc digits) value
enough zero value low = beginnings_last 1 value low ∙ sym (beginnings_last 0 value low)
enough (suc digits) value low = split (nat_lt value 10) refl (enough digits (value / 10))
  where
    power : 10 ^ suc (suc digits) ≡ 10 * 10 ^ suc digits
    power = omega arith

    tenth : value / 10 < 10 ^ suc digits
    tenth = omega (arith, low, power)

    split : (b : Bool) → nat_lt value 10 ≡ b → (value / 10 < 10 ^ suc digits → beginnings (suc (suc digits)) (value / 10) ≡ beginnings (suc digits) (value / 10))
        → beginnings (suc (suc (suc digits))) value ≡ beginnings (suc (suc digits)) value
    split true is again = let small = ltb-true value 10 is in beginnings_last (suc (suc digits)) value small ∙ sym (beginnings_last (suc digits) value small)
    split false is again =
        let large = ltb-false value 10 is in
        beginnings_next (suc (suc digits)) value large ∙ ap (λ l. value ∷ l) (again tenth) ∙ sym (beginnings_next (suc digits) value large)

-- a number with one digit more begins with that number, and with those that this one begins with
beginnings_more : (value more : ℕ) → 10 ≤ more → more < 2 ^ 64 → more / 10 ≡ value → beginnings 20 more ≡ more ∷ beginnings 20 value
beginnings_more value more large fits is =
    beginnings_next 19 more large ∙ ap (λ v. more ∷ beginnings 19 v) is ∙ ap (λ l. more ∷ l) (sym (enough 18 value (omega (arith, is, fits))))

grown_more : (n c : ℕ) (cs : List ℕ) → may_grow n c ≡ true → grown n (c ∷ cs) ≡ grown (one_more n c) cs
grown_more n c cs e = rw e refl

grown_stops : (n c : ℕ) (cs : List ℕ) → may_grow n c ≡ false → grown n (c ∷ cs) ≡ n
grown_stops n c cs e = rw e refl

-- a number and those that grow of it are those that the longest one begins with
pub record GrowsTo (n : ℕ) (octets : List ℕ) : Type 0 where
  pub to : (k : ℕ) → Contains (beginnings 20 n) k ⊎ Contains (growing n octets) k → Contains (beginnings 20 (grown n octets)) k
  pub back : (k : ℕ) → Contains (beginnings 20 (grown n octets)) k → Contains (beginnings 20 n) k ⊎ Contains (growing n octets) k

grows_to : (n : ℕ) (octets : List ℕ) → 0 < n → GrowsTo n octets
grows_to n [] some = record {
  to = λ k has. to k has;
  back = λ k has. inl has;
}
  where
    to : (k : ℕ) → Contains (beginnings 20 n) k ⊎ Contains [] k → Contains (beginnings 20 n) k
    to k (inl has) = has
    to k (inr has) = absurd (none_in k has)
grows_to n (c ∷ cs) some = by (may_grow n c) refl (grows_to (one_more n c) cs)
  where
    by : (b : Bool) → may_grow n c ≡ b → (0 < one_more n c → GrowsTo (one_more n c) cs) → GrowsTo n (c ∷ cs)
    by false e again = record {
      to = λ k has. to k has;
      back = λ k has. inl (subst (λ v. Contains (beginnings 20 v) k) (grown_stops n c cs e) has);
    }
      where
        to : (k : ℕ) → Contains (beginnings 20 n) k ⊎ Contains (growing n (c ∷ cs)) k → Contains (beginnings 20 (grown n (c ∷ cs))) k
        to k (inl has) = subst (λ v. Contains (beginnings 20 v) k) (sym (grown_stops n c cs e)) has
        to k (inr has) = absurd (none_in k (subst (λ l. Contains l k) (growing_stops n c cs e) has))
    by true e again = record {
      to = λ k has. subst (λ v. Contains (beginnings 20 v) k) (sym (grown_more n c cs e)) (rest.to k (first k has));
      back = λ k has. last k (rest.back k (subst (λ v. Contains (beginnings 20 v) k) (grown_more n c cs e) has));
    }
      where
        is : (48 ≤ c) × (c ≤ 57) × (one_more n c < 2 ^ 64)
        is = may_grow_says n c e

        low : 48 ≤ c
        low = is.0

        high : c ≤ 57
        high = is.1

        fits : one_more n c < 2 ^ 64
        fits = is.2

        rest : GrowsTo (one_more n c) cs
        rest = again (omega arith)

        more : beginnings 20 (one_more n c) ≡ one_more n c ∷ beginnings 20 n
        more = beginnings_more n (one_more n c) (omega arith) fits (omega (arith, low, high))

        grow : growing n (c ∷ cs) ≡ one_more n c ∷ growing (one_more n c) cs
        grow = growing_more n c cs e

        one_first : (k : ℕ) → (one_more n c ≡ k) ⊎ Contains (growing (one_more n c) cs) k → Contains (beginnings 20 (one_more n c)) k ⊎ Contains (growing (one_more n c) cs) k
        one_first k (inl same) = inl (subst (λ l. Contains l k) (sym more) (subst (Contains (one_more n c ∷ beginnings 20 n)) same (here (one_more n c) (beginnings 20 n))))
        one_first k (inr has) = inr has

        first : (k : ℕ) → Contains (beginnings 20 n) k ⊎ Contains (growing n (c ∷ cs)) k → Contains (beginnings 20 (one_more n c)) k ⊎ Contains (growing (one_more n c) cs) k
        first k (inl has) = inl (subst (λ l. Contains l k) (sym more) (later (one_more n c) k (beginnings 20 n) has))
        first k (inr has) = one_first k (one_of (one_more n c) k (growing (one_more n c) cs) (subst (λ l. Contains l k) grow has))

        one_last : (k : ℕ) → (one_more n c ≡ k) ⊎ Contains (beginnings 20 n) k → Contains (beginnings 20 n) k ⊎ Contains (growing n (c ∷ cs)) k
        one_last k (inl same) = inr (subst (λ l. Contains l k) (sym grow) (subst (Contains (one_more n c ∷ growing (one_more n c) cs)) same (here (one_more n c) (growing (one_more n c) cs))))
        one_last k (inr has) = inl has

        last : (k : ℕ) → Contains (beginnings 20 (one_more n c)) k ⊎ Contains (growing (one_more n c) cs) k → Contains (beginnings 20 n) k ⊎ Contains (growing n (c ∷ cs)) k
        last k (inl has) = one_last k (one_of (one_more n c) k (beginnings 20 n) (subst (λ l. Contains l k) more has))
        last k (inr has) = inr (subst (λ l. Contains l k) (sym grow) (later (one_more n c) k (growing (one_more n c) cs) has))

leading_zero : (c : ℕ) (cs : List ℕ) → (c == 48) ≡ true → leading (c ∷ cs) ≡ Some 0
leading_zero c cs e = rw e refl

leading_some : (c : ℕ) (cs : List ℕ) → (c == 48) ≡ false → may_grow 0 c ≡ true → leading (c ∷ cs) ≡ Some (grown (one_more 0 c) cs)
leading_some c cs e f = rw (e, f) refl

leading_none : (c : ℕ) (cs : List ℕ) → (c == 48) ≡ false → may_grow 0 c ≡ false → leading (c ∷ cs) ≡ None
leading_none c cs e f = rw (e, f) refl

started_some : (octets : List ℕ) (value : ℕ) → leading octets ≡ Some value → started octets ≡ beginnings 20 value
started_some octets value e = ap (λ o. all_begun (option_to_list o)) e ∙ flat_map-cons (beginnings 20) value [] ∙ append-nil (beginnings 20 value)

started_none : (octets : List ℕ) → leading octets ≡ None → started octets ≡ []
started_none octets e = ap (λ o. all_begun (option_to_list o)) e

-- the numbers whose text begins the octets are those that the longest of them begins with
begun_is_started : (octets : List ℕ) → HasSame (begun octets) (started octets)
begun_is_started [] = same_self [] (started []) (sym (started_none [] refl))
begun_is_started (c ∷ cs) = split (c == 48) refl (may_grow 0 c) refl
  where
    grows : (c == 48) ≡ false → may_grow 0 c ≡ true → (48 ≤ c) × (c ≤ 57) × (one_more 0 c < 2 ^ 64) → HasSame (begun (c ∷ cs)) (started (c ∷ cs))
    grows other e is = record {
      to = λ k has. subst (λ l. Contains l k) (sym whole) (all.to k (first k (one_of (one_more 0 c) k (growing (one_more 0 c) cs) (subst (λ l. Contains l k) list has))));
      back = λ k has. subst (λ l. Contains l k) (sym list) (last k (all.back k (subst (λ l. Contains l k) whole has)));
    }
      where
        not_zero : c ≡ 48 → ⊥
        not_zero same = absurd_of other (eq_is same)
          where
            eq_is : c ≡ 48 → (c == 48) ≡ true
            eq_is same = rw same refl

            absurd_of : (c == 48) ≡ false → (c == 48) ≡ true → ⊥
            absurd_of a b = (cc)

        low : 48 ≤ c
        low = is.0

        high : c ≤ 57
        high = is.1

        some : 0 < one_more 0 c
        some = omega (arith, not_zero)

        all : GrowsTo (one_more 0 c) cs
        all = grows_to (one_more 0 c) cs some

        alone : beginnings 20 (one_more 0 c) ≡ one_more 0 c ∷ []
        alone = beginnings_last 19 (one_more 0 c) (omega arith)

        whole : started (c ∷ cs) ≡ beginnings 20 (grown (one_more 0 c) cs)
        whole = started_some (c ∷ cs) (grown (one_more 0 c) cs) (leading_some c cs other e)

        list : begun (c ∷ cs) ≡ one_more 0 c ∷ growing (one_more 0 c) cs
        list = begun_other c cs other ∙ growing_more 0 c cs e

        first : (k : ℕ) → (one_more 0 c ≡ k) ⊎ Contains (growing (one_more 0 c) cs) k → Contains (beginnings 20 (one_more 0 c)) k ⊎ Contains (growing (one_more 0 c) cs) k
        first k (inl same) = inl (subst (λ l. Contains l k) (sym alone) (subst (Contains (one_more 0 c ∷ [])) same (here (one_more 0 c) [])))
        first k (inr has) = inr has

        only_one : (k : ℕ) → (one_more 0 c ≡ k) ⊎ Contains [] k → Contains (one_more 0 c ∷ growing (one_more 0 c) cs) k
        only_one k (inl same) = subst (Contains (one_more 0 c ∷ growing (one_more 0 c) cs)) same (here (one_more 0 c) (growing (one_more 0 c) cs))
        only_one k (inr has) = absurd (none_in k has)

        last : (k : ℕ) → Contains (beginnings 20 (one_more 0 c)) k ⊎ Contains (growing (one_more 0 c) cs) k → Contains (one_more 0 c ∷ growing (one_more 0 c) cs) k
        last k (inl has) = only_one k (one_of (one_more 0 c) k [] (subst (λ l. Contains l k) alone has))
        last k (inr has) = later (one_more 0 c) k (growing (one_more 0 c) cs) has

    split : (zero_first : Bool) → (c == 48) ≡ zero_first → (may : Bool) → may_grow 0 c ≡ may → HasSame (begun (c ∷ cs)) (started (c ∷ cs))
    split true is may e = same_self (begun (c ∷ cs)) (started (c ∷ cs)) (begun_zero c cs (eqb-true c 48 is) ∙ sym (beginnings_last 19 0 (omega arith)) ∙ sym (started_some (c ∷ cs) 0 (leading_zero c cs is)))
    split false is false e = same_self (begun (c ∷ cs)) (started (c ∷ cs)) (begun_other c cs is ∙ growing_stops 0 c cs e ∙ sym (started_none (c ∷ cs) (leading_none c cs is e)))
    split false is true e = grows is e (may_grow_says 0 c e)

-- a number whose text begins the octets is found
pub started_finds : (k : ℕ) (rest : List ℕ) → k < 2 ^ 64 → Contains (started (decimal k ++ rest)) k
started_finds k rest fits = (begun_is_started (decimal k ++ rest)).to k (begun_finds k rest fits)

-- what is found is a number whose text begins the octets
pub started_only : (k : ℕ) (os : List ℕ) → Contains (started os) k → (rest : List ℕ) × (os ≡ decimal k ++ rest) × (k < 2 ^ 64)
started_only k os has = begun_only k os ((begun_is_started os).back k has)
