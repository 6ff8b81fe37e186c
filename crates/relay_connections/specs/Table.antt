-- Slots by number, of which the last occupied one is known.
use Rattle.std.specs.Prelude.{◌≡◌, ◌≤◌, ◌+◌, ℕ, Bool, true, false, List, [], ◌∷◌, Option, None, Some, if◌then◌else◌}
use Rattle.relay_slots.specs.Slots.{slot_at}

-- the slot of this number is free, and so are all after it
abbrev pub AreFreeFrom : {A : Type 0} → List (Option A) → ℕ → Type 0
AreFreeFrom slots first = (number : ℕ) → first ≤ number → slot_at slots number ≡ None

-- the slot has a value with this property
abbrev pub is_such : {A : Type 0} → (A → Bool) → Option A → Bool
is_such such None = false
is_such such (Some value) = such value

-- how many of these slots have a value with this property
abbrev pub count_of_such : {A : Type 0} → (A → Bool) → List (Option A) → ℕ
count_of_such such [] = 0
count_of_such such (slot ∷ slots) = (if is_such such slot then 1 else 0) + count_of_such such slots

-- how many of these slots are occupied
abbrev pub count_of : {A : Type 0} → List (Option A) → ℕ
count_of slots = count_of_such (λ value. true) slots
