-- When a lane is put on hold, and when it counts as shared.
use Rattle.std.specs.Prelude.{◌≡◌, ◌⊎◌, ◌||◌, ℕ, Bool, true, false, nat_lt, List, slice_get}
use Rattle.std.specs.Option.{option_map_or}
use Rattle.relay_limits.specs.Pace.{held_from, standing}
use Rattle.relay_limits.specs.declared.pace.Pace.{Pace}
use Rattle.relay_lanes.specs.Paces.{IsHeldAt, changed_at}
use Rattle.relay_next_hops.specs.declared.delivery.Aim.{Aim}
use Rattle.relay_next_hops.specs.declared.delivery.Delivery.{Delivery}

-- the lane is on hold from this tick on, unless it is on hold already: that hold goes on
abbrev pub HoldsFrom : ℕ → ℕ → List Pace → List Pace → Type 0
HoldsFrom tick lane old new =
    (IsHeldAt tick old lane × (new ≡ old))
    ⊎ ((IsHeldAt tick old lane → ⊥) × (new ≡ changed_at (held_from tick) old lane))

-- After a loss at this tick, the lane of a next hop that has sent nothing is on hold. If it has sent something, no pace
-- changes.
pub record HoldsIfSilent (tick : ℕ) (delivery : Delivery) (old new : List Pace) : Type 0 where
  pub silent : delivery.has_spoken ≡ false → HoldsFrom tick delivery.aim.lane old new
  pub spoken : delivery.has_spoken ≡ true → new ≡ old

-- how many connections of the lane of a number stand: none if there is no such lane
abbrev pub standing_at : List Pace → ℕ → ℕ
standing_at paces number = option_map_or standing (slice_get paces number) 0

-- the next hop of a connection has others, or had when it was begun
abbrev pub is_shared : List Pace → Aim → Bool
is_shared paces aim = aim.beside || nat_lt 1 (standing_at paces aim.lane)
