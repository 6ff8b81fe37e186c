-- How many slots are taken, after a call that leaves all but one as they are.
use Rattle.std.proofs.Common.{◌≡◌, ◌≤◌, ◌+◌, ℕ, zero, suc, List, [], ◌∷◌, Option, None, Some, refl, sym, ap, arith}
use Rattle.std.proofs.lemmas.Option.{none-some}
use Rattle.relay_slots.specs.Slots.{AreFree, OthersStay, slot_at}
use Rattle.relay_hosts.specs.Host.{count_some}

suc_same : (n m : ℕ) → suc n ≡ suc m → n ≡ m
suc_same n m same = omega (arith, same)

module _ {A : Type 0} where
  pub count_free : (slots : List (Option A)) → AreFree slots → count_some slots ≡ 0
  count_free [] free = refl
  count_free (None ∷ slots) free = count_free slots free
  count_free (Some value ∷ slots) free = absurd free

  -- where all slots are the same, so is their count
  count_same : (old new : List (Option A)) → ((n : ℕ) → slot_at new n ≡ slot_at old n) → count_some new ≡ count_some old
  count_same [] [] same = refl
  count_same [] (None ∷ new) same = count_same [] new (λ n. same (suc n))
  count_same [] (Some value ∷ new) same = absurd (none-some value (sym (same 0)))
  count_same (None ∷ old) [] same = count_same old [] (λ n. same (suc n))
  count_same (Some value ∷ old) [] same = absurd (none-some value (same 0))
  count_same (None ∷ old) (None ∷ new) same = count_same old new (λ n. same (suc n))
  count_same (None ∷ old) (Some value ∷ new) same = absurd (none-some value (sym (same 0)))
  count_same (Some value ∷ old) (None ∷ new) same = absurd (none-some value (same 0))
  count_same (Some one ∷ old) (Some value ∷ new) same = ap suc (count_same old new (λ n. same (suc n)))

  -- one slot that was taken is free
  pub count_drop : (old new : List (Option A)) (slot : ℕ) (value : A) → OthersStay old new slot → slot_at old slot ≡ Some value
      → slot_at new slot ≡ None → count_some new + 1 ≡ count_some old
  count_drop [] new slot value others was now = absurd (none-some value was)
  count_drop (Some one ∷ old) [] zero value others was now =
      let rest = count_same old [] (λ n. others (suc n) (λ same. omega (arith, same))) in omega (arith, rest)
  count_drop (Some one ∷ old) (None ∷ new) zero value others was now =
      let rest = count_same old new (λ n. others (suc n) (λ same. omega (arith, same))) in omega (arith, rest)
  count_drop (Some one ∷ old) (Some two ∷ new) zero value others was now = absurd (none-some two (sym now))
  count_drop (None ∷ old) new zero value others was now = absurd (none-some value was)
  count_drop (None ∷ old) [] (suc slot) value others was now =
      count_drop old [] slot value (λ n off. others (suc n) (λ same. off (suc_same n slot same))) was now
  count_drop (None ∷ old) (None ∷ new) (suc slot) value others was now =
      count_drop old new slot value (λ n off. others (suc n) (λ same. off (suc_same n slot same))) was now
  count_drop (None ∷ old) (Some two ∷ new) (suc slot) value others was now =
      absurd (none-some two (sym (others 0 (λ same. omega (arith, same)))))
  count_drop (Some one ∷ old) [] (suc slot) value others was now =
      absurd (none-some one (others 0 (λ same. omega (arith, same))))
  count_drop (Some one ∷ old) (None ∷ new) (suc slot) value others was now =
      absurd (none-some one (others 0 (λ same. omega (arith, same))))
  count_drop (Some one ∷ old) (Some two ∷ new) (suc slot) value others was now =
      let rest = count_drop old new slot value (λ n off. others (suc n) (λ same. off (suc_same n slot same))) was now in
      omega (arith, rest)

  -- one is taken at least
  pub count_one : (slots : List (Option A)) (slot : ℕ) (value : A) → slot_at slots slot ≡ Some value → 1 ≤ count_some slots
  count_one [] slot value is = absurd (none-some value is)
  count_one (None ∷ slots) zero value is = absurd (none-some value is)
  count_one (None ∷ slots) (suc slot) value is = count_one slots slot value is
  count_one (Some one ∷ slots) slot value is = omega arith

  -- where one was taken, no more are after a call that leaves the others
  pub count_no_more : (old new : List (Option A)) (slot : ℕ) (value : A) → OthersStay old new slot
      → slot_at old slot ≡ Some value → count_some new ≤ count_some old
  count_no_more [] new slot value others was = absurd (none-some value was)
  count_no_more (one ∷ old) [] slot value others was = omega arith
  count_no_more (None ∷ old) (two ∷ new) zero value others was = absurd (none-some value was)
  count_no_more (Some one ∷ old) (None ∷ new) zero value others was =
      let rest = count_same old new (λ n. others (suc n) (λ same. omega (arith, same))) in omega (arith, rest)
  count_no_more (Some one ∷ old) (Some two ∷ new) zero value others was =
      let rest = count_same old new (λ n. others (suc n) (λ same. omega (arith, same))) in omega (arith, rest)
  count_no_more (None ∷ old) (None ∷ new) (suc slot) value others was =
      count_no_more old new slot value (λ n off. others (suc n) (λ same. off (suc_same n slot same))) was
  count_no_more (None ∷ old) (Some two ∷ new) (suc slot) value others was =
      absurd (none-some two (sym (others 0 (λ same. omega (arith, same)))))
  count_no_more (Some one ∷ old) (None ∷ new) (suc slot) value others was =
      absurd (none-some one (others 0 (λ same. omega (arith, same))))
  count_no_more (Some one ∷ old) (Some two ∷ new) (suc slot) value others was =
      let rest = count_no_more old new slot value (λ n off. others (suc n) (λ same. off (suc_same n slot same))) was in
      omega (arith, rest)

  -- one more is taken at most after a call that leaves the others
  pub count_more : (old new : List (Option A)) (slot : ℕ) → OthersStay old new slot → count_some new ≤ suc (count_some old)
  count_more [] [] slot others = omega arith
  count_more [] (None ∷ new) zero others =
      let rest = count_same [] new (λ n. others (suc n) (λ same. omega (arith, same))) in omega (arith, rest)
  count_more [] (Some two ∷ new) zero others =
      let rest = count_same [] new (λ n. others (suc n) (λ same. omega (arith, same))) in omega (arith, rest)
  count_more [] (None ∷ new) (suc slot) others =
      count_more [] new slot (λ n off. others (suc n) (λ same. off (suc_same n slot same)))
  count_more [] (Some two ∷ new) (suc slot) others = absurd (none-some two (sym (others 0 (λ same. omega (arith, same)))))
  count_more (one ∷ old) [] slot others = omega arith
  count_more (None ∷ old) (None ∷ new) zero others =
      let rest = count_same old new (λ n. others (suc n) (λ same. omega (arith, same))) in omega (arith, rest)
  count_more (None ∷ old) (Some two ∷ new) zero others =
      let rest = count_same old new (λ n. others (suc n) (λ same. omega (arith, same))) in omega (arith, rest)
  count_more (Some one ∷ old) (None ∷ new) zero others =
      let rest = count_same old new (λ n. others (suc n) (λ same. omega (arith, same))) in omega (arith, rest)
  count_more (Some one ∷ old) (Some two ∷ new) zero others =
      let rest = count_same old new (λ n. others (suc n) (λ same. omega (arith, same))) in omega (arith, rest)
  count_more (None ∷ old) (None ∷ new) (suc slot) others =
      count_more old new slot (λ n off. others (suc n) (λ same. off (suc_same n slot same)))
  count_more (None ∷ old) (Some two ∷ new) (suc slot) others =
      absurd (none-some two (sym (others 0 (λ same. omega (arith, same)))))
  count_more (Some one ∷ old) (None ∷ new) (suc slot) others =
      let rest = count_more old new slot (λ n off. others (suc n) (λ same. off (suc_same n slot same))) in
      omega (arith, rest)
  count_more (Some one ∷ old) (Some two ∷ new) (suc slot) others =
      let rest = count_more old new slot (λ n off. others (suc n) (λ same. off (suc_same n slot same))) in
      omega (arith, rest)
