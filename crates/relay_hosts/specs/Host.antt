-- A node as its parts, and the room that is reserved for notes that may still come.
use Rattle.std.specs.Prelude.{ℕ, suc, ◌+◌, ◌≤◌, Bool, true, false, List, [], ◌∷◌, Option, None, Some, if◌then◌else◌}
use Rattle.std.specs.Option.{option_map}
use Rattle.relay_node.specs.Node.{NodeState}
use Rattle.relay_world.specs.World as world
use Rattle.relay_hosts.specs.declared.host.HostState.{HostState}
use Rattle.relay_hosts.specs.declared.host.HostState.TheVariants.{Up, Down}
use Rattle.relay_hosts.specs.declared.host.Origin.{Origin}
use Rattle.relay_hosts.specs.declared.host.Origin.TheVariants.{FromClient, FromReplies, FromLoss, FromGivingUp}
use Rattle.relay_hosts.specs.declared.host.Undecided.{Undecided}

abbrev pub origin_in : Origin → world.Origin
origin_in (FromClient link) = world.FromClient link
origin_in (FromReplies link place message) = world.FromReplies link place message
origin_in (FromLoss link place message) = world.FromLoss link place message
origin_in (FromGivingUp message) = world.FromGivingUp message

abbrev pub undecided_in : Undecided → world.Undecided
undecided_in undecided = record { note = undecided.note; origin = origin_in undecided.origin }

-- the host of this node, which is up, with these records
abbrev pub host_of : {D : Type 0} → NodeState D → List (List ℕ) → world.Host D
host_of node records = record { config = node.config; state = world.Up node; records = records }

abbrev pub host_in : {D : Type 0} → HostState D → List (List ℕ) → world.Host D
host_in (Up node) records = host_of node records
host_in (Down down) records = record {
  config = down.config;
  state = world.Down down.disk (option_map undecided_in down.undecided);
  records = records;
}

-- how many slots are occupied
abbrev pub count_some : {A : Type 0} → List (Option A) → ℕ
count_some [] = 0
count_some (None ∷ slots) = count_some slots
count_some (Some value ∷ slots) = suc (count_some slots)

-- How many notes may still come from a node: one of each running attempt, and, if it has stopped, the one of the call
-- that stopped it.
abbrev pub notes_of : {D : Type 0} → NodeState D → ℕ
notes_of node = if node.records.spool.live then count_some node.attempts else 1

-- or, from a node that is down, the one that its opening decides
abbrev pub notes_to_come : {D : Type 0} → HostState D → ℕ
notes_to_come (Up node) = notes_of node
notes_to_come (Down down) = count_some (down.undecided ∷ [])

-- At most this many records may still come, and there is room for them.
abbrev pub OwesWithin : ℕ → ℕ → ℕ → ℕ → Type 0
OwesWithin notes len capacity owed = (notes ≤ owed) × (len + owed ≤ capacity)

-- whether the state holds a node that is up
abbrev pub holds_up : {D : Type 0} → world.HostState D → Bool
holds_up (world.Up standing) = true
holds_up (world.Down disk undecided) = false

abbrev pub is_up : {D : Type 0} → Option (world.Host D) → Bool
is_up None = false
is_up (Some host) = holds_up host.state
