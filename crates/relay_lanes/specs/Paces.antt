-- The paces of lanes by number, and how many attempts each is running.
use Rattle.std.specs.Prelude.{◌≡◌, ◌≢◌, ◌⊎◌, ℕ, ◌+◌, ◌-◌, ◌^◌, min, max, Bool, false, List, Option, None, Some}
use Rattle.std.specs.Prelude.{MatchOption, option_map, slice_get, slice_set}
use Rattle.std.specs.Option.{option_map_or}
use Rattle.relay_limits.specs.declared.pace.Pace.{Pace}
use Rattle.relay_limits.specs.Pace.{IsHeld, MayBegin, standing, unknown_pace, with_limit, with_running}

-- the paces, with another one under a number, if there is one
abbrev pub put_at : List Pace → ℕ → Option Pace → List Pace
put_at paces number None = paces
put_at paces number (Some pace) = slice_set paces number pace

-- the paces, with that of a number changed so
abbrev pub changed_at : (Pace → Pace) → List Pace → ℕ → List Pace
changed_at change paces number = put_at paces number (option_map change (slice_get paces number))

-- how many attempts the lane of a number is running: none if there is no such lane
abbrev pub running_at : List Pace → ℕ → ℕ
running_at paces number = option_map_or (λ pace. pace.running) (slice_get paces number) 0

-- one more attempt is running
abbrev pub begun : Pace → Pace
begun pace = with_running (min (pace.running + 1) (2 ^ 64 - 1)) pace

-- one attempt less is running
abbrev pub ended : Pace → Pace
ended pace = with_running (pace.running - 1) pace

-- the next hop accepts no more connections than there are, but at least 1
abbrev pub refused : Pace → Pace
refused pace = with_limit (max (standing pace) 1) pace

-- the next hop accepts one more connection
abbrev pub welcomed : Pace → Pace
welcomed pace = with_limit (min (pace.limit + 1) (2 ^ 64 - 1)) pace

-- the lane may begin one more connection
abbrev pub MayBeginAt : ℕ → ℕ → List Pace → ℕ → Type 0
MayBeginAt most tick paces number = MatchOption (slice_get paces number) ⊥ (MayBegin most tick)

-- the lane is on hold at this tick
abbrev pub IsHeldAt : ℕ → List Pace → ℕ → Type 0
IsHeldAt tick paces number = MatchOption (slice_get paces number) ⊥ (λ pace. IsHeld pace.hold tick)

-- each lane is running as many attempts as before
abbrev pub RunAsBefore : List Pace → List Pace → Type 0
RunAsBefore old new = (number : ℕ) → running_at new number ≡ running_at old number

-- each lane keeps its pace, and nothing is known of the next hops of those that were added
abbrev pub AddsUnknown : List Pace → List Pace → Type 0
AddsUnknown old new = (number : ℕ) → (slice_get new number ≡ slice_get old number)
    ⊎ ((slice_get old number ≡ None) × (slice_get new number ≡ Some unknown_pace))

-- how many connections of the lane of a number are leaving: none if there is no such lane
abbrev pub leaving_at : List Pace → ℕ → ℕ
leaving_at paces number = option_map_or (λ pace. pace.leaving) (slice_get paces number) 0

-- there is a lane of this number
abbrev pub HasLane : List Pace → ℕ → Type 0
HasLane paces number = slice_get paces number ≢ None

-- this lane is running one more attempt, and each other as many as before
pub record RunsOneMore (lane : ℕ) (old new : List Pace) : Type 0 where
  pub own : running_at new lane ≡ min (running_at old lane + 1) (2 ^ 64 - 1)
  pub others : (number : ℕ) → number ≢ lane → running_at new number ≡ running_at old number

-- this lane is running one attempt less, and each other as many as before
pub record RunsOneLess (lane : ℕ) (old new : List Pace) : Type 0 where
  pub own : running_at new lane ≡ running_at old lane - 1
  pub others : (number : ℕ) → number ≢ lane → running_at new number ≡ running_at old number

-- the next hop of the lane has answered since it was last put on hold, or since the relay began
abbrev pub has_answered_at : List Pace → ℕ → Bool
has_answered_at paces number = option_map_or (λ pace. pace.has_answered) (slice_get paces number) false
