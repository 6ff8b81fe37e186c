-- The next tick at which something is done for a value in a table, one slot after another.
use Rattle.std.proofs.Common.{◌≡◌, ◌⊎◌, inl, inr, ◌+◌, ◌<◌, ◌≤◌, ℕ, min, List, length, Option, None, Some, refl, sym, ap, ◌∙◌, subst, arith}
use Rattle.std.proofs.Math.Nat.{eq-or-lt_of_le}
use Rattle.relay_slots.specs.Slots.{slot_at}
use Rattle.relay_connections.specs.Deadlines.{IsDoneAt, IsEarliest, IsNotBefore}
use Rattle.relay_connections.proofs.LeftLemmas.{below_or_after, none_after}

module _ {A : Type 0} (done_at : A → ℕ) where
  -- the earliest of the ticks of the values below a number, and of another tick
  pub record IsSoFar (otherwise : ℕ) (slots : List (Option A)) (number tick : ℕ) : Type 0 where
    pub within : tick ≤ otherwise
    pub each : (other : ℕ) → other < number → IsNotBefore done_at tick (slot_at slots other)
    pub one : (tick ≡ otherwise) ⊎ IsDoneAt done_at tick slots

  pub so_far_nothing : (otherwise : ℕ) (slots : List (Option A)) → IsSoFar otherwise slots 0 otherwise
  so_far_nothing otherwise slots = record {
    within = omega arith;
    each = λ other below. absurd (omega (arith, below));
    one = inl refl;
  }

  not_before_sooner : (tick sooner : ℕ) (slot : Option A) → sooner ≤ tick → IsNotBefore done_at tick slot → IsNotBefore done_at sooner slot
  not_before_sooner tick sooner None below not = tt
  not_before_sooner tick sooner (Some value) below not = omega (arith, below, not)

  not_before_none : (tick : ℕ) (slot : Option A) → ((value : A) → slot ≡ Some value → ⊥) → IsNotBefore done_at tick slot
  not_before_none tick None not = tt
  not_before_none tick (Some value) not = absurd (not value refl)

  each_more : (slots : List (Option A)) (tick sooner number : ℕ) → sooner ≤ tick → ((other : ℕ) → other < number → IsNotBefore done_at tick (slot_at slots other))
      → IsNotBefore done_at sooner (slot_at slots number) → (other : ℕ) → other < number + 1 → IsNotBefore done_at sooner (slot_at slots other)
  each_more slots tick sooner number below before here other low = by (eq-or-lt_of_le (omega (arith, low))) where
    by : (other ≡ number) ⊎ (other < number) → IsNotBefore done_at sooner (slot_at slots other)
    by (inl same) = subst (λ (at : ℕ). IsNotBefore done_at sooner (slot_at slots at)) (sym same) here
    by (inr less) = not_before_sooner tick sooner (slot_at slots other) below (before other less)

  one_more : (otherwise : ℕ) (slots : List (Option A)) (number tick sooner : ℕ) (value : A) → slot_at slots number ≡ Some value → sooner ≡ min tick (done_at value)
      → (tick ≡ otherwise) ⊎ IsDoneAt done_at tick slots → (sooner ≡ otherwise) ⊎ IsDoneAt done_at sooner slots
  one_more otherwise slots number tick sooner value there is before = by (below_or_after tick (done_at value)) where
    by : (tick < done_at value) ⊎ (done_at value ≤ tick) → (sooner ≡ otherwise) ⊎ IsDoneAt done_at sooner slots
    by (inl less) = subst (λ (at : ℕ). (at ≡ otherwise) ⊎ IsDoneAt done_at at slots) (omega (arith, is, less)) before
    by (inr past) = inr (record { number = number; value = value; there = there; done = omega (arith, is, past) })

  -- the next slot has a value
  pub so_far_some : (otherwise : ℕ) (slots : List (Option A)) (number tick sooner : ℕ) (value : A) → slot_at slots number ≡ Some value → sooner ≡ min tick (done_at value)
      → IsSoFar otherwise slots number tick → IsSoFar otherwise slots (number + 1) sooner
  so_far_some otherwise slots number tick sooner value there is before =
      let within = before.within in
      let here : sooner ≤ done_at value = omega (arith, is) in
      record {
        within = omega (arith, within, is);
        each = each_more slots tick sooner number (omega (arith, is)) before.each (subst (IsNotBefore done_at sooner) (sym there) here);
        one = one_more otherwise slots number tick sooner value there is before.one;
      }

  -- the next slot has none
  pub so_far_none : (otherwise : ℕ) (slots : List (Option A)) (number tick sooner : ℕ) → ((value : A) → slot_at slots number ≡ Some value → ⊥) → sooner ≡ tick
      → IsSoFar otherwise slots number tick → IsSoFar otherwise slots (number + 1) sooner
  so_far_none otherwise slots number tick sooner none is before = subst (IsSoFar otherwise slots (number + 1)) (sym is) (record {
    within = before.within;
    each = each_more slots tick tick number (omega arith) before.each (not_before_none tick (slot_at slots number) none);
    one = before.one;
  })

  -- no slot is left
  pub so_far_all : (otherwise : ℕ) (standing slots : List (Option A)) (number tick : ℕ) → ((other : ℕ) → slot_at standing other ≡ slot_at slots other) → length standing ≤ number
      → IsSoFar otherwise slots number tick → IsEarliest done_at otherwise slots tick
  so_far_all otherwise standing slots number tick same passed before = record {
    within = before.within;
    each = λ other. by other (below_or_after other number);
    one = before.one;
  } where
    by : (other : ℕ) → (other < number) ⊎ (number ≤ other) → IsNotBefore done_at tick (slot_at slots other)
    by other (inl below) = before.each other below
    by other (inr after) = subst (IsNotBefore done_at tick) (sym (none_after standing other (omega (arith, passed, after))) ∙ same other) tt
