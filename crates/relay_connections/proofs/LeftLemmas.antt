-- What holds of no slot of a table that was passed over one by one.
use Rattle.std.proofs.Common.{◌≡◌, ◌≢◌, ◌⊎◌, inl, inr, ℕ, ◌+◌, ◌<◌, ◌≤◌, zero, suc, List, length, Option, None, Some, sym, ap, ◌∙◌, subst, arith}
use Rattle.std.proofs.Math.Nat.{eq-or-lt_of_le}
use Rattle.std.proofs.Math.ListN.{get_or, get_or-eq_default}
use Rattle.std.proofs.lemmas.List.{get_or_default}
use Rattle.relay_slots.specs.Slots.{slot_at}

-- what holds of none below a number, nor of that number, holds of none below the next
pub none_more : (P : ℕ → Type 0) (next : ℕ) → ((number : ℕ) → number < next → P number → ⊥) → (P next → ⊥) → (number : ℕ) → number < next + 1 → P number → ⊥
none_more P next before here number below = by (eq-or-lt_of_le (omega (arith, below))) where
  by : (number ≡ next) ⊎ (number < next) → P number → ⊥
  by (inl same) holds = here (subst P same holds)
  by (inr low) holds = before number low holds

-- what stands in a slot of a table is what a walk over the table finds there
pub stands_there : {A : Type 0} (slots : List (Option A)) (number : ℕ) (found : Option A) → number < length slots → found ≡ get_or slots number found → slot_at slots number ≡ found
stands_there slots number found below is = get_or_default slots number None found below ∙ sym is

-- nothing stands after the last slot
pub none_after : {A : Type 0} (slots : List (Option A)) (number : ℕ) → length slots ≤ number → slot_at slots number ≡ None
none_after slots number after = get_or-eq_default slots None after

pub below_or_after : (number next : ℕ) → (number < next) ⊎ (next ≤ number)
below_or_after zero zero = inr (omega arith)
below_or_after zero (suc next) = inl (omega arith)
below_or_after (suc number) zero = inr (omega arith)
below_or_after (suc number) (suc next) = by (below_or_after number next) where
  by : (number < next) ⊎ (next ≤ number) → (suc number < suc next) ⊎ (suc next ≤ suc number)
  by (inl below) = inl (omega (arith, below))
  by (inr after) = inr (omega (arith, after))

-- where none of those that were passed over is left, none of all is
pub none_at_all : {A : Type 0} (slots : List (Option A)) (P : ℕ → Type 0) (next : ℕ) → length slots ≤ next → ((number : ℕ) → P number → slot_at slots number ≢ None) → ((number : ℕ) → number < next → P number → ⊥) → (number : ℕ) → P number → ⊥
none_at_all slots P next passed stands none number holds = by (below_or_after number next) where
  by : (number < next) ⊎ (next ≤ number) → ⊥
  by (inl below) = none number below holds
  by (inr after) = stands number holds (none_after slots number (omega (arith, passed, after)))

abbrev value_or : {A : Type 0} → A → Option A → A
value_or other None = other
value_or other (Some value) = value

pub same_value : {A : Type 0} (one other : A) → Some one ≡ Some other → one ≡ other
same_value one other same = ap (value_or one) same

-- where the same stands under a number in two tables, and something in one, so it does in the other
pub some_there : {A : Type 0} (slots others : List (Option A)) (number : ℕ) (value : A) → slot_at slots number ≡ slot_at others number → slot_at others number ≡ Some value → slot_at slots number ≢ None
some_there slots others number value same there none = absurd (some_not_none (sym there ∙ sym same ∙ none)) where
  some_not_none : {A : Type 0} {value : A} → Some value ≡ None → ⊥
  some_not_none e = absurd (cc e)
