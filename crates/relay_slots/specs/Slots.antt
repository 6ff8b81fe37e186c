-- Numbered slots, and what each holds.
use Rattle.std.specs.Prelude.{◌≡◌, ◌≢◌, ◌<◌, ℕ, List, [], ◌∷◌, length, Option, None, Some, slice_index_or}
use Rattle.relay_slots.specs.declared.slots.TheConstants.{SLOT_COUNT}

-- the value of the slot of this number; none after the last slot
abbrev pub slot_at : {A : Type 0} → List (Option A) → ℕ → Option A
slot_at slots number = slice_index_or slots number None

-- all other slots are the same
abbrev pub OthersStay : {A : Type 0} → List (Option A) → List (Option A) → ℕ → Type 0
OthersStay old new number = (other : ℕ) → other ≢ number → slot_at new other ≡ slot_at old other

-- each slot is free
abbrev pub AreFree : {A : Type 0} → List (Option A) → Type 0
AreFree [] = Unit {0}
AreFree (None ∷ slots) = AreFree slots
AreFree (Some value ∷ slots) = ⊥

-- there are 64 slots
abbrev pub HasPlaces : {A : Type 0} → List (Option A) → Type 0
HasPlaces slots = length slots ≡ SLOT_COUNT

-- there are 64 slots, and none is free
abbrev pub IsFull : {A : Type 0} → List (Option A) → Type 0
IsFull slots =
    HasPlaces slots × ((number : ℕ) → number < SLOT_COUNT → slot_at slots number ≢ None)

-- the least number of a free slot
pub record IsLeastFree {A : Type 0} (slots : List (Option A)) (number : ℕ) : Type 0 where
  pub within : number < SLOT_COUNT
  pub free : slot_at slots number ≡ None
  pub least : (lower : ℕ) → lower < number → slot_at slots lower ≢ None

-- In a free table of 64 slots each number is free, the least of them is 0, and so it isn't full.
abbrev pub FreeHasPlaces : Type 0 → Type 0
FreeHasPlaces A =
    (slots : List (Option A)) → AreFree slots → HasPlaces slots
    → IsLeastFree slots 0 × (IsFull slots → ⊥)
