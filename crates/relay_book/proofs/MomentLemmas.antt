-- The first moment at which a place is due, by keys that rise.
use Rattle.std.proofs.Common.{◌≡◌, ◌⊎◌, inl, inr, ℕ, suc, ◌<◌, ◌≤◌, ◌==◌, Bool, true, false, ◌&&◌, ◌||◌, List, [], ◌∷◌, ◌++◌, None, Some, refl, sym, subst, ap, ◌∙◌, arith, if◌then◌else◌, Contains, nat_cmp, nat_lt}
use Rattle.std.specs.List.{AllByRecursion}
use Rattle.std.specs.List.Sorted.{IsStrictlySortedBy}
use Rattle.std.specs.Ordering.{is_lt, ordering_then}
use Rattle.std.specs.declared.cmp.Ordering.{Ordering}
use Rattle.std.specs.declared.cmp.Ordering.TheVariants.{Less, Greater}
use Rattle.std.proofs.lemmas.Map.Keys.{sorted_head}
use Rattle.std.proofs.lemmas.List.Elements.{Contains-append_cases, Contains-append_left, Contains-append_right}
use Rattle.std.proofs.lemmas.Bool.{cond-true, cond-false, cases_eq, cases_order, eq-eqb, eqb-true, ne_eqb, and_parts, and_from, false_from_ne_true, ltb-true, false≢true}
use Rattle.relay_book.specs.declared.message.Place.{Place}
use Rattle.relay_book.specs.declared.message.Message.{Message}
use Rattle.relay_book.specs.Queue.{message_of}
use Rattle.relay_book.specs.Book.{AllTold, AreTold, Rise, is_held_until}
use Rattle.relay_book.specs.Moments.{IsLeastOf, moments_from, moments_of, waits_from, waits_of}
use Rattle.relay_book.proofs.PlaceLemmas.{in_none, in_cons, head_in}
use Rattle.relay_book.proofs.DueLemmas.{pair_cmp}

-- a list that contains nothing is empty
empty_of : (numbers : List ℕ) → ((n : ℕ) → Contains numbers n → ⊥) → numbers ≡ []
empty_of [] none = refl
empty_of (n ∷ numbers) none = absurd (none n (head_in n numbers))

-- a place that waits is due at one of the moments
moment_there : (test : ℕ → Bool) (due n : ℕ) (places : List Place) → waits_from test due n places ≡ true → Contains (moments_from test n places) due
moment_there test due n [] waits = absurd (false≢true waits)
moment_there test due n (place ∷ places) waits = by (moment_there test due (suc n) places) place.held (place.due == due) (test n) refl refl refl
  where
    row : Bool → List ℕ
    row b = if b then place.due ∷ [] else []

    more : (b : Bool) → Contains (moments_from test (suc n) places) due → Contains (row b ++ moments_from test (suc n) places) due
    more b there = Contains-append_right (row b) (moments_from test (suc n) places) due there

    by : (waits_from test due (suc n) places ≡ true → Contains (moments_from test (suc n) places) due) → (held now passes : Bool) → place.held ≡ held → (place.due == due) ≡ now → test n ≡ passes
        → Contains (row (place.held && test n) ++ moments_from test (suc n) places) due
    by rest true true true h d t =
        subst (λ (b : Bool). Contains (row b ++ moments_from test (suc n) places) due) (sym (ap (λ (b : Bool). b && test n) h ∙ t))
        (subst (λ m. Contains (place.due ∷ moments_from test (suc n) places) m) (eqb-true place.due due d) (head_in place.due (moments_from test (suc n) places)))
    by rest true true false h d t = more (place.held && test n) (rest (sym (ap (λ (b : Bool). (b && place.due == due && test n) || waits_from test due (suc n) places) h ∙ ap (λ (b : Bool). (b && test n) || waits_from test due (suc n) places) d ∙ ap (λ (b : Bool). b || waits_from test due (suc n) places) t) ∙ waits))
    by rest true false passes h d t = more (place.held && test n) (rest (sym (ap (λ (b : Bool). (b && place.due == due && test n) || waits_from test due (suc n) places) h ∙ ap (λ (b : Bool). (b && test n) || waits_from test due (suc n) places) d) ∙ waits))
    by rest false now passes h d t = more (place.held && test n) (rest (sym (ap (λ (b : Bool). (b && place.due == due && test n) || waits_from test due (suc n) places) h) ∙ waits))

-- at each of the moments a place waits, and the keys tell of it
waits_there : (test : ℕ → Bool) (keys : List (ℕ × ℕ)) (number due n : ℕ) (places : List Place) → AreTold keys number places → Contains (moments_from test n places) due
    → (waits_from test due n places ≡ true) × Contains {X = ℕ × ℕ} keys (due, number)
waits_there test keys number due n [] told there = absurd (in_none due there)
waits_there test keys number due n (place ∷ places) told there =
    by (waits_there test keys number due (suc n) places told.1) (place.held && test n) refl there
  where
    rest_waits : (waits_from test due (suc n) places ≡ true) × Contains {X = ℕ × ℕ} keys (due, number)
        → (waits_from test due n (place ∷ places) ≡ true) × Contains {X = ℕ × ℕ} keys (due, number)
    rest_waits rest = (ap (λ (b : Bool). (is_held_until due place && test n) || b) rest.0 ∙ or_true (is_held_until due place && test n), rest.1)
      where
        or_true : (b : Bool) → (b || true) ≡ true
        or_true true = refl
        or_true false = refl

    by : (Contains (moments_from test (suc n) places) due → (waits_from test due (suc n) places ≡ true) × Contains {X = ℕ × ℕ} keys (due, number))
        → (b : Bool) → (place.held && test n) ≡ b → Contains ((if b then place.due ∷ [] else []) ++ moments_from test (suc n) places) due
        → (waits_from test due n (place ∷ places) ≡ true) × Contains {X = ℕ × ℕ} keys (due, number)
    by rest false e there = rest_waits (rest there)
    by rest true e there = of (in_cons place.due due (moments_from test (suc n) places) there)
      where
        of : (place.due ≡ due) ⊎ Contains (moments_from test (suc n) places) due → (waits_from test due n (place ∷ places) ≡ true) × Contains {X = ℕ × ℕ} keys (due, number)
        of (inr more) = rest_waits (rest more)
        of (inl same) =
            let parts = and_parts place.held (test n) e in
            let held = and_from place.held (place.due == due) parts.0 (eq-eqb place.due due same) in (
              ap (λ (b : Bool). (b && test n) || waits_from test due (suc n) places) held ∙ ap (λ (b : Bool). b || waits_from test due (suc n) places) parts.1,
              subst (λ m. Contains {X = ℕ × ℕ} keys (m, number)) same (told.0 parts.0),
            )

module _ (test : ℕ → Message → ℕ → Bool) where
  -- a place of the message of a key waits until its moment
  abbrev pub waits_at : List (ℕ × Message) → ℕ × ℕ → Bool
  waits_at entries key = waits_of test key.0 key.1 (message_of entries key.1)

  -- what waits by a key is due at one of the moments
  pub moment_of_key : (entries : List (ℕ × Message)) (key : ℕ × ℕ) → waits_at entries key ≡ true → Contains (moments_of test entries) key.0
  moment_of_key [] key waits = absurd (false≢true waits)
  moment_of_key (entry ∷ entries) key waits = by (moment_of_key entries key) (cases_eq entry.0 key.1)
    where
      first : List ℕ
      first = moments_from (test entry.0 entry.1) 0 entry.1.places

      by : (waits_at entries key ≡ true → Contains (moments_of test entries) key.0) → (entry.0 ≡ key.1) ⊎ (entry.0 ≡ key.1 → ⊥) → Contains (first ++ moments_of test entries) key.0
      by more (inl same) =
          let found = cond-true (entry.0 == key.1) (Some entry.1) (message_of entries key.1) (eq-eqb entry.0 key.1 same) in
          let here : waits_from (test entry.0 entry.1) key.0 0 entry.1.places ≡ true =
          ap (λ n. waits_from (test n entry.1) key.0 0 entry.1.places) same ∙ sym (ap (waits_of test key.0 key.1) found) ∙ waits in
          Contains-append_left first (moments_of test entries) key.0 (moment_there (test entry.0 entry.1) key.0 0 entry.1.places here)
      by more (inr off) =
          let past = cond-false (entry.0 == key.1) (Some entry.1) (message_of entries key.1) (ne_eqb entry.0 key.1 off) in
          Contains-append_right first (moments_of test entries) key.0 (more (sym (ap (waits_of test key.0 key.1) past) ∙ waits))

  -- a key tells of a place that is due at this moment, of a message from this number on
  record IsKeyed (keys : List (ℕ × ℕ)) (entries : List (ℕ × Message)) (least due : ℕ) : Type 0 where
    number : ℕ
    from : least ≤ number
    told : Contains {X = ℕ × ℕ} keys (due, number)
    waits : waits_of test due number (message_of entries number) ≡ true

  key_of_moment : (keys : List (ℕ × ℕ)) (entries : List (ℕ × Message)) (least next due : ℕ) → Rise least next entries → AllTold keys entries
      → Contains (moments_of test entries) due → IsKeyed keys entries least due
  key_of_moment keys [] least next due rise told there = absurd (in_none due there)
  key_of_moment keys (entry ∷ entries) least next due rise told there =
      by (key_of_moment keys entries (suc entry.0) next due rise.1 told.1) (Contains-append_cases first (moments_of test entries) due there)
    where
      first : List ℕ
      first = moments_from (test entry.0 entry.1) 0 entry.1.places

      by : (Contains (moments_of test entries) due → IsKeyed keys entries (suc entry.0) due) → Contains first due ⊎ Contains (moments_of test entries) due → IsKeyed keys (entry ∷ entries) least due
      by more (inl here) =
          let waits = waits_there (test entry.0 entry.1) keys entry.0 due 0 entry.1.places told.0 here in
          let found = cond-true (entry.0 == entry.0) (Some entry.1) (message_of entries entry.0) (eq-eqb entry.0 entry.0 refl) in
          record { number = entry.0; from = rise.0; told = waits.1; waits = ap (waits_of test due entry.0) found ∙ waits.0 }
      by more (inr rest) =
          let keyed = more rest in
          let above = keyed.from in
          let low = rise.0 in
          let past = cond-false (entry.0 == keyed.number) (Some entry.1) (message_of entries keyed.number) (ne_eqb entry.0 keyed.number (λ same. omega (arith, same, above))) in
          record {
            number = keyed.number;
            from = omega (arith, above, low);
            told = keyed.told;
            waits = ap (waits_of test due keyed.number) past ∙ keyed.waits;
          }

  -- of the keys by which a place waits none is gone
  abbrev pub AreLeft : List (ℕ × Message) → List (ℕ × ℕ) → List (ℕ × ℕ) → Type 0
  AreLeft entries keys rest = (key : ℕ × ℕ) → Contains keys key → waits_at entries key ≡ true → Contains rest key

  pub all_left : (entries : List (ℕ × Message)) (keys rest : List (ℕ × ℕ)) → rest ≡ keys → AreLeft entries keys rest
  all_left entries keys rest is key there waits = subst (λ (l : List (ℕ × ℕ)). Contains l key) (sym is) there

  -- a key by which none waits may go
  pub one_gone : (entries : List (ℕ × Message)) (keys before after : List (ℕ × ℕ)) (gone : ℕ × ℕ) (waits : Bool) → before ≡ gone ∷ after → waits ≡ waits_at entries gone → waits ≡ false
      → AreLeft entries keys before → AreLeft entries keys after
  one_gone entries keys before after gone waits is asked none left key there waits_then =
      by (in_cons gone key after (subst (λ (l : List (ℕ × ℕ)). Contains l key) is (left key there waits_then)))
    where
      by : (gone ≡ key) ⊎ Contains after key → Contains after key
      by (inl same) = absurd (false≢true (sym none ∙ asked ∙ ap (waits_at entries) same ∙ waits_then))
      by (inr more) = more

  -- where none is left, no place waits
  pub none_waits : (entries : List (ℕ × Message)) (keys rest : List (ℕ × ℕ)) (next : ℕ) → rest ≡ [] → Rise 0 next entries → AllTold keys entries
      → AreLeft entries keys rest → IsLeastOf (moments_of test entries) None
  none_waits entries keys rest next is rise told left = empty_of (moments_of test entries) (λ due there.
      let keyed = key_of_moment keys entries 0 next due rise told there in
      in_none {A = ℕ × ℕ} (due, keyed.number) (subst (λ (l : List (ℕ × ℕ)). Contains {X = ℕ × ℕ} l (due, keyed.number)) is (left (due, keyed.number) keyed.told keyed.waits)))

  -- a key is not after those that follow it
  not_after : (key other : ℕ × ℕ) → pair_cmp key other ≡ Less → key.0 ≤ other.0
  not_after key other less = by (cases_order key.0 other.0)
    where
      by : (key.0 ≡ other.0) ⊎ ((key.0 < other.0) ⊎ (other.0 < key.0)) → key.0 ≤ other.0
      by (inl same) = omega (arith, same)
      by (inr (inl below)) = omega (arith, below)
      by (inr (inr above)) =
          let on = false_from_ne_true (nat_lt key.0 other.0) (λ low. (let h = ltb-true key.0 other.0 low in omega (arith, above, h))) in
          let off = ne_eqb key.0 other.0 (λ same. omega (arith, same, above)) in
          let greater : pair_cmp key other ≡ Greater =
          ap (λ (o : Ordering). ordering_then o (nat_cmp key.1 other.1)) (cond-false (nat_lt key.0 other.0) _ _ on ∙ cond-false (key.0 == other.0) _ _ off) in
          absurd (false≢true (ap is_lt (sym greater ∙ less)))

  all_of : (P : ℕ × ℕ → Type 0) (keys : List (ℕ × ℕ)) (key : ℕ × ℕ) → AllByRecursion P keys → Contains keys key → P key
  all_of P [] key all there = absurd (in_none key there)
  all_of P (first ∷ keys) key all there = by (all_of P keys key all.1) (in_cons first key keys there)
    where
      by : (Contains keys key → P key) → (first ≡ key) ⊎ Contains keys key → P key
      by more (inl same) = subst P same all.0
      by more (inr rest) = more rest

  -- the first key by which a place waits
  pub first_waits : (entries : List (ℕ × Message)) (keys rest after : List (ℕ × ℕ)) (first : ℕ × ℕ) (next : ℕ) (waits : Bool) → rest ≡ first ∷ after → IsStrictlySortedBy pair_cmp rest
      → waits ≡ waits_at entries first → waits ≡ true → Rise 0 next entries → AllTold keys entries → AreLeft entries keys rest → IsLeastOf (moments_of test entries) (Some first.0)
  first_waits entries keys rest after first next waits is sorted asked true_is rise told left = (moment_of_key entries first (sym asked ∙ true_is), least)
    where
      least : (other : ℕ) → Contains (moments_of test entries) other → first.0 ≤ other
      least other there = by (in_cons {A = ℕ × ℕ} first (other, keyed.number) after (subst (λ (l : List (ℕ × ℕ)). Contains {X = ℕ × ℕ} l (other, keyed.number)) is (left (other, keyed.number) keyed.told keyed.waits)))
        where
          keyed : IsKeyed keys entries 0 other
          keyed = key_of_moment keys entries 0 next other rise told there

          by : (first ≡ (other, keyed.number)) ⊎ Contains {X = ℕ × ℕ} after (other, keyed.number) → first.0 ≤ other
          by (inl same) = let e = ap (λ (k : ℕ × ℕ). k.0) same in omega (arith, e)
          by (inr more) =
              not_after first (other, keyed.number)
              (all_of (λ key. pair_cmp first key ≡ Less) after (other, keyed.number)
              (sorted_head pair_cmp first after (subst (IsStrictlySortedBy pair_cmp) is sorted)) more)
