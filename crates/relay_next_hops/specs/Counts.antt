-- A lane's count is the number of its connections.
use Rattle.std.specs.Prelude.{◌≡◌, ◌<◌, ◌≤◌, ◌+◌, ◌==◌, ℕ, nat_lt, Bool, true, not, List, Option, if◌then◌else◌}
use Rattle.std.specs.Prelude.{length, option_map, slice_get}
use Rattle.relay_limits.specs.Pace.{with_leaving}
use Rattle.relay_limits.specs.declared.pace.Pace.{Pace}
use Rattle.relay_connections.specs.Table.{count_of_such}
use Rattle.relay_connections.specs.Leaving.{goes_to, leavers_of}
use Rattle.relay_connections.specs.declared.leaving.Leaving.{Leaving}
use Rattle.relay_lanes.specs.Paces.{has_answered_at, leaving_at, running_at}
use Rattle.relay_next_hops.specs.declared.hop.Hop.{Hop}
use Rattle.relay_next_hops.specs.declared.lanes.Lanes.{Lanes}

-- the connection belongs to this lane
abbrev pub is_in : {S : Type 0} → ℕ → Hop S → Bool
is_in lane hop = hop.aim.lane == lane

-- the count of each lane is the number of its connections
abbrev pub CountsMatch : {S : Type 0} → List (Option (Hop S)) → List Pace → Type 0
CountsMatch hops paces = (lane : ℕ) → running_at paces lane ≡ count_of_such (is_in lane) hops

-- the same with one more connection, which is worked on outside of the table
abbrev pub CountsMatchWith : {S : Type 0} → Hop S → List (Option (Hop S)) → List Pace → Type 0
CountsMatchWith hop hops paces =
    (lane : ℕ) → running_at paces lane ≡ (if is_in lane hop then 1 else 0) + count_of_such (is_in lane) hops

-- the pace of a lane after its leaving connections were counted again: this many are left of those that there were
abbrev pub recounted : ℕ → Pace → Pace
recounted count pace = if nat_lt 0 pace.leaving then with_leaving count pace else pace

-- The leaving connections of each lane were counted again that had any. Lanes are open then, since their next hops may
-- accept more.
pub record RecountsLeaving {S : Type 0} (leaving : Leaving S) (old new : Lanes) : Type 0 where
  pub counted : (lane : ℕ) → lane < length old.lanes.items → slice_get new.paces lane
      ≡ option_map (recounted (count_of_such (goes_to lane) (leavers_of leaving))) (slice_get old.paces lane)
  pub others : (lane : ℕ) → length old.lanes.items ≤ lane → slice_get new.paces lane ≡ slice_get old.paces lane
  pub opened : (lane : ℕ) → lane < length old.lanes.items → 0 < leaving_at old.paces lane → new.is_open ≡ true
  pub tasks : new.lanes ≡ old.lanes

-- the connection's next hop hasn't answered since it was last put on hold, or since the relay began
abbrev pub is_unanswered : {S : Type 0} → List Pace → Hop S → Bool
is_unanswered paces hop = not (has_answered_at paces hop.aim.lane)

-- how many such connections there are
abbrev pub unanswered_of : {S : Type 0} → List (Option (Hop S)) → List Pace → ℕ
unanswered_of hops paces = count_of_such (is_unanswered paces) hops
