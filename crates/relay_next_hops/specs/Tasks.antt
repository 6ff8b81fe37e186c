-- What becomes of listed tasks while attempts begin: none is dropped.
use Rattle.std.specs.Prelude.{◌≡◌, ◌==◌, ◌⊎◌, ℕ, true, Contains, List, Option, None, Some}
use Rattle.std.specs.List.{list_any}
use Rattle.relay_disk.specs.Device.{DiskWords}
use Rattle.relay_slots.specs.Slots.{slot_at}
use Rattle.relay_routes.specs.Routes.{place_of}
use Rattle.relay_control.specs.Held.{holds}
use Rattle.relay_loop.specs.Relay.{RelayState}
use Rattle.relay_connections.specs.Served.{LeavesClients}
use Rattle.relay_lanes.specs.declared.lane.Task.{Task}
use Rattle.relay_next_hops.specs.Lanes.{tasks_at}
use Rattle.relay_next_hops.specs.Listing.{HasConnection}
use Rattle.relay_next_hops.specs.Overdue.{LosesTask}
use Rattle.relay_next_hops.specs.declared.hop.Hop.{Hop}
use Rattle.relay_next_hops.specs.declared.lanes.Lanes.{Lanes}

-- each task of this lane stays in it
abbrev pub KeepsTasks : ℕ → Lanes → Lanes → Type 0
KeepsTasks lane old new = (task : Task) → Contains (tasks_at old lane) task → Contains (tasks_at new lane) task

-- each connection stays as it is, under its number
abbrev pub KeepsConnections : {S : Type 0} → List (Option (Hop S)) → List (Option (Hop S)) → Type 0
KeepsConnections {S} old new =
    (number : ℕ) (hop : Hop S) → slot_at old number ≡ Some hop → slot_at new number ≡ Some hop

-- In a call at a time, the loss of the task was recorded, or the node refused it. The call left clients alone up to
-- then, and afterwards: so the changes that the node kept then, with that record, are among those that it keeps now.
pub record IsLostIn {D : Type 0} (honest : Type 0) (words : DiskWords D) (at : ℕ) (task : Task) (old new : RelayState D)
    : Type 0 where
  pub before : RelayState D
  pub after : RelayState D
  pub first : LeavesClients honest words old before
  pub lost : LosesTask words at task before after
  pub meanwhile : LeavesClients honest words before after
  pub last : LeavesClients honest words after new

-- Where a task of a lane is after such a call, if there is no connection for it: it is still in its lane; the walk over
-- the queue is still to come to its message; all due mail is to be listed again; a postmaster holds it; the routes give
-- no address for its next hop; or it was lost.
abbrev pub IsSettled
    : {D : Type 0} → Type 0 → DiskWords D → ℕ → ℕ → Task → Lanes → RelayState D → RelayState D → Type 0
IsSettled honest words at lane task lanes old new =
    Contains (tasks_at lanes lane) task
    ⊎ (list_any (λ message. message == task.message) lanes.queued.left ≡ true)
    ⊎ (lanes.is_stale ≡ true)
    ⊎ (holds task.hop task.message lanes.held ≡ true)
    ⊎ (place_of old.node.config.routes.routes task.hop ≡ None)
    ⊎ IsLostIn honest words at task old new

-- each task that was listed in a lane is settled so
abbrev pub SettlesAll : {D : Type 0} → Type 0 → DiskWords D → ℕ → Lanes → Lanes → RelayState D → RelayState D → Type 0
SettlesAll honest words at lanes_old lanes_new old new = (lane : ℕ) (task : Task)
    → Contains (tasks_at lanes_old lane) task → IsSettled honest words at lane task lanes_new old new

-- There is a connection for the task in its lane: its attempt begins there, or has begun. Or the task is settled so.
abbrev pub IsAccountedFor
    : {D S : Type 0} → Type 0 → DiskWords D → ℕ → List (Option (Hop S)) → ℕ → Task → Lanes → RelayState D → RelayState D
    → Type 0
IsAccountedFor honest words at hops lane task lanes old new =
    HasConnection hops task.message task.hop lane ⊎ IsSettled honest words at lane task lanes old new

-- Each task that was listed in a lane is accounted for, with these connections afterwards: none was dropped.
abbrev pub DropsNone
    : {D S : Type 0} → Type 0 → DiskWords D → ℕ → List (Option (Hop S)) → Lanes → Lanes → RelayState D → RelayState D
    → Type 0
DropsNone honest words at hops lanes_old lanes_new old new = (lane : ℕ) (task : Task)
    → Contains (tasks_at lanes_old lane) task → IsAccountedFor honest words at hops lane task lanes_new old new
