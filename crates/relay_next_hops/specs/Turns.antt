-- How far a turn goes: over all lanes, as long as there is room.
use Rattle.std.specs.Prelude.{◌≡◌, ◌⊎◌, ◌<◌, ℕ, List, Option, length}
use Rattle.relay_slots.specs.Slots.{IsFull}
use Rattle.relay_next_hops.specs.Starting.{IsDone, IsTriedOut}
use Rattle.relay_next_hops.specs.declared.hop.Hop.{Hop}
use Rattle.relay_next_hops.specs.declared.lanes.Lanes.{Lanes}

-- a lane was gone over: no more may begin for it, or it has had its share of this turn
abbrev pub IsGoneOver : {S : Type 0} → ℕ → ℕ → Lanes → List (Option (Hop S)) → Lanes → ℕ → Type 0
IsGoneOver tick spares old hops new lane = IsDone tick hops new lane ⊎ IsTriedOut spares old new lane

-- what ends a turn before each lane was gone over: there is no room for a connection, or no spare descriptor is left
abbrev pub IsStopped : {S : Type 0} → List (Option (Hop S)) → ℕ → Type 0
IsStopped hops spares = IsFull hops ⊎ (spares ≡ 0)

-- How far a turn has gone: over each lane, unless nothing may begin before a tick that is still to come, there is no
-- room for a connection, or no spare descriptor is left. What has become of the tasks that have left their lanes isn't
-- said here, but by `DropsNone`.
abbrev pub BeginsAll : {S : Type 0} → ℕ → ℕ → ℕ → ℕ → Lanes → Lanes → List (Option (Hop S)) → Type 0
BeginsAll tick paused_until spares left old new hops = (tick < paused_until) ⊎ IsStopped hops left
    ⊎ ((lane : ℕ) → lane < length old.lanes.items → IsGoneOver tick spares old hops new lane)
