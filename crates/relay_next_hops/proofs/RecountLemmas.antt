-- Leaving connections are counted again, lane by lane.
use Rattle.std.proofs.Common.{◌≡◌, ◌≢◌, ◌⊎◌, ◌↔◌, inl, inr, ℕ, ◌+◌, ◌<◌, ◌≤◌, zero, suc, Bool, true, false, List, [], ◌∷◌, Option, None, Some, option_map, refl, sym, ap, subst, ◌∙◌, arith, if◌then◌else◌}
use Rattle.std.specs.Prelude.{IsTrue, nat_lt, slice_get, slice_set}
use Rattle.std.specs.Option.{option_map_or}
use Rattle.std.proofs.lemmas.Bool.{cases_lt, false≢true, lt-ltb, ltb-true}
use Rattle.relay_limits.specs.Pace.{with_leaving}
use Rattle.relay_limits.specs.declared.pace.Pace.{Pace}
use Rattle.relay_lanes.specs.Paces.{changed_at, leaving_at, put_at}
use Rattle.relay_next_hops.specs.Counts.{recounted}
use Rattle.relay_next_hops.specs.declared.lanes.Lanes.{Lanes}
use Rattle.relay_next_hops.proofs.HoldLemmas.{changed_itself, changed_others}

-- the lanes before a number were counted again, and the others weren't yet
abbrev pub Counted : (ℕ → ℕ) → List Pace → List Pace → ℕ → Type 0
Counted count old new number =
    ((lane : ℕ) → lane < number → slice_get new lane ≡ option_map (recounted (count lane)) (slice_get old lane))
    × ((lane : ℕ) → number ≤ lane → slice_get new lane ≡ slice_get old lane)

pub counted_none : (count : ℕ → ℕ) (paces : List Pace) → Counted count paces paces 0
counted_none count paces = (λ lane low. absurd (omega (arith, low)), λ lane high. refl)

pub counted_next : (count : ℕ → ℕ) (old between new : List Pace) (number : ℕ) → Counted count old between number → new ≡ changed_at (recounted (count number)) between number → Counted count old new (number + 1)
counted_next count old between new number before is = (first, second) where
  first : (lane : ℕ) → lane < number + 1 → slice_get new lane ≡ option_map (recounted (count lane)) (slice_get old lane)
  first lane below = by (cases_lt lane number) where
    by : (lane < number) ⊎ (number ≤ lane) → slice_get new lane ≡ option_map (recounted (count lane)) (slice_get old lane)
    by (inl low) =
        ap (λ (paces : List Pace). slice_get paces lane) is
        ∙ changed_others (recounted (count number)) between number lane (λ same. absurd (omega (arith, low, same)))
        ∙ before.0 lane low
    by (inr high) =
        let same : number ≡ lane = omega (arith, below, high) in
        subst (λ (n : ℕ). slice_get new n ≡ option_map (recounted (count n)) (slice_get old n)) same
        (ap (λ (paces : List Pace). slice_get paces number) is
        ∙ changed_itself (recounted (count number)) between number
        ∙ ap (option_map (recounted (count number))) (before.1 number (omega arith)))

  second : (lane : ℕ) → number + 1 ≤ lane → slice_get new lane ≡ slice_get old lane
  second lane high =
      ap (λ (paces : List Pace). slice_get paces lane) is
      ∙ changed_others (recounted (count number)) between number lane (λ same. absurd (omega (arith, high, same)))
      ∙ before.1 lane (omega (arith, high))

pub opened_next : (start : List Pace) (old new : Lanes) (number : ℕ) → ((lane : ℕ) → number ≤ lane → slice_get old.paces lane ≡ slice_get start lane) → (0 < leaving_at old.paces number → new.is_open ≡ true) → (old.is_open ≡ true → new.is_open ≡ true) → ((lane : ℕ) → lane < number → 0 < leaving_at start lane → old.is_open ≡ true) → (lane : ℕ) → lane < number + 1 → 0 < leaving_at start lane → new.is_open ≡ true
opened_next start old new number same own stays before lane below some = by (cases_lt lane number) where
  by : (lane < number) ⊎ (number ≤ lane) → new.is_open ≡ true
  by (inl low) = stays (before lane low some)
  by (inr high) =
      let it : lane ≡ number = omega (arith, below, high) in
      own (subst (λ (pace : Option Pace). 0 < option_map_or (λ (pace : Pace). pace.leaving) pace 0) (sym (same number (omega arith)))
      (subst (λ (n : ℕ). 0 < leaving_at start n) it some))

-- what is set to what it was
set_same : {A : Type 0} (xs : List A) (n : ℕ) (x : A) → slice_get xs n ≡ Some x → slice_set xs n x ≡ xs
set_same [] n x there = refl
set_same (y ∷ ys) zero x there = cc there
set_same (y ∷ ys) (suc n) x there = ap (λ ys. y ∷ ys) (set_same ys n x there)

none_here : (count : ℕ) (pace : Pace) → (0 < pace.leaving → ⊥) → recounted count pace ≡ pace
none_here count pace none = by (nat_lt 0 pace.leaving) refl where
  by : (some : Bool) → nat_lt 0 pace.leaving ≡ some → (if some then with_leaving count pace else pace) ≡ pace
  by true is = absurd (none (ltb-true 0 pace.leaving is))
  by false is = refl

some_here : (count : ℕ) (pace : Pace) → 0 < pace.leaving → with_leaving count pace ≡ recounted count pace
some_here count pace some =
    ap (λ (has : Bool). if has then with_leaving count pace else pace) (sym (lt-ltb 0 pace.leaving some))

pub none_recounted : (count : ℕ) (paces : List Pace) (number : ℕ) (has : Bool) → has ≡ false → (IsTrue has ↔ (0 < leaving_at paces number)) → paces ≡ changed_at (recounted count) paces number
none_recounted count paces number has not_so tells = by (slice_get paces number) refl where
  by : (found : Option Pace) → slice_get paces number ≡ found → paces ≡ put_at paces number (option_map (recounted count) found)
  by None there = refl
  by (Some pace) there =
      let none : 0 < pace.leaving → ⊥ = λ some. false≢true (sym not_so ∙ tells.1 (subst (λ (found : Option Pace). 0 < option_map_or (λ (pace : Pace). pace.leaving) found 0) (sym there) some)) in
      sym (set_same paces number (recounted count pace) (there ∙ ap Some (sym (none_here count pace none))))

pub some_recounted : (count : ℕ) (paces : List Pace) (number : ℕ) (has : Bool) → has ≡ true → (IsTrue has ↔ (0 < leaving_at paces number)) → changed_at (with_leaving count) paces number ≡ changed_at (recounted count) paces number
some_recounted count paces number has so tells = by (slice_get paces number) refl where
  by : (found : Option Pace) → slice_get paces number ≡ found → put_at paces number (option_map (with_leaving count) found) ≡ put_at paces number (option_map (recounted count) found)
  by None there = refl
  by (Some pace) there =
      let some : 0 < pace.leaving = subst (λ (found : Option Pace). 0 < option_map_or (λ (pace : Pace). pace.leaving) found 0) there (tells.0 so) in
      ap (slice_set paces number) (some_here count pace some)
