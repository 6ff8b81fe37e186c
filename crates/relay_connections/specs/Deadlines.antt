-- The next tick at which something is done for a value in a table.
use Rattle.std.specs.Prelude.{◌≡◌, ◌≤◌, ◌⊎◌, ℕ, List, Option, None, Some}
use Rattle.relay_slots.specs.Slots.{slot_at}

-- Below: given the tick at which something is done for a value.
module _ {A : Type 0} (done_at : A → ℕ) where
  -- nothing is done before this tick for the value in the slot, if there is one
  abbrev pub IsNotBefore : ℕ → Option A → Type 0
  IsNotBefore tick None = Unit {0}
  IsNotBefore tick (Some value) = tick ≤ done_at value

  -- something is done at this tick for one of the values in these slots
  pub record IsDoneAt (tick : ℕ) (slots : List (Option A)) : Type 0 where
    pub number : ℕ
    pub value : A
    pub there : slot_at slots number ≡ Some value
    pub done : done_at value ≡ tick

  -- the earliest of the ticks of all values in these slots, and of another tick
  pub record IsEarliest (otherwise : ℕ) (slots : List (Option A)) (tick : ℕ) : Type 0 where
    pub within : tick ≤ otherwise
    pub each : (number : ℕ) → IsNotBefore tick (slot_at slots number)
    pub one : (tick ≡ otherwise) ⊎ IsDoneAt tick slots
