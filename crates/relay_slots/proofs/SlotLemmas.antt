-- Values that are taken out and put back.
use Rattle.std.proofs.Common.{◌≡◌, ◌≢◌, ◌⊎◌, inl, inr, ◌++◌, ℕ, ◌+◌, ◌<◌, zero, suc, List, [], ◌∷◌, length, Option, None, Some, refl, sym, ap, ◌∙◌, subst, arith}
use Rattle.std.specs.Prelude.{slice_set}
use Rattle.std.proofs.lemmas.List.{get_or-set_other}
use Rattle.relay_slots.specs.Slots.{AreFree, OthersStay, slot_at}

pub taken_is_none : {A : Type 0} (slots : List (Option A)) (number : ℕ) → slot_at (slice_set slots number None) number ≡ None
taken_is_none [] number = refl
taken_is_none (value ∷ slots) zero = refl
taken_is_none (value ∷ slots) (suc number) = taken_is_none slots number

-- a number with a value is that of a slot
pub has_slot : {A : Type 0} (slots : List (Option A)) (number : ℕ) (value : A) → slot_at slots number ≡ Some value → number < length slots
has_slot [] number value e = absurd (cc)
has_slot (first ∷ slots) zero value e = omega arith
has_slot (first ∷ slots) (suc number) value e = let rest = has_slot slots number value e in omega (arith, rest)

pub set_others : {A : Type 0} (slots : List (Option A)) (number : ℕ) (value : Option A) → OthersStay slots (slice_set slots number value) number
set_others slots number value = λ other differs. get_or-set_other slots number other value None differs

pub others_twice : {A : Type 0} (old mid new : List (Option A)) (number : ℕ) → OthersStay old mid number → OthersStay mid new number → OthersStay old new number
others_twice old mid new number first second = λ other differs. second other differs ∙ first other differs

-- a free slot more
pub free_more : {A : Type 0} (slots more : List (Option A)) → more ≡ slots ++ None ∷ [] → AreFree slots → AreFree more
free_more slots more is free = subst AreFree (sym is) (free_last slots free) where
  free_last : {A : Type 0} (slots : List (Option A)) → AreFree slots → AreFree (slots ++ None ∷ [])
  free_last [] free = tt
  free_last (None ∷ slots) free = free_last slots free
  free_last (Some value ∷ slots) free = absurd free

-- no free number up to the next one
pub none_below : {A : Type 0} (slots : List (Option A)) (number : ℕ) → ((lower : ℕ) → lower < number → slot_at slots lower ≢ None) → slot_at slots number ≢ None → (lower : ℕ) → lower < number + 1 → slot_at slots lower ≢ None
none_below slots number below here lower low =
    elim (below_or_at lower number low) [
      | inl less ↦ below lower less
      | inr same ↦ subst (λ n. slot_at slots n ≢ None) (sym same) here
    ]
  where
    below_or_at : (lower number : ℕ) → lower < number + 1 → (lower < number) ⊎ (lower ≡ number)
    below_or_at zero zero low = inr refl
    below_or_at zero (suc number) low = inl (omega arith)
    below_or_at (suc lower) zero low = absurd (omega (arith, low))
    below_or_at (suc lower) (suc number) low =
        elim (below_or_at lower number (omega (arith, low))) [
          | inl less ↦ inl (omega (arith, less))
          | inr same ↦ inr (ap suc same)
        ]

pub others_of_set : {A : Type 0} (slots all : List (Option A)) (number : ℕ) (value : Option A) → all ≡ slice_set slots number value → OthersStay slots all number
others_of_set {A = A} slots all number value is = subst (λ (l : List (Option A)). OthersStay slots l number) (sym is) (set_others slots number value)
