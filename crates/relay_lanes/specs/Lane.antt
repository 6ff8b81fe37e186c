-- The tasks of a lane.
use Rattle.std.specs.Prelude.{◌==◌, ◌&&◌, ◌-◌, ℕ, Bool, List, [], ◌∷◌, ◌++◌, Option}
use Rattle.std.specs.Prelude.{bytes_eq, drop, if◌then◌else◌, length, option_map, slice_get, take}
use Rattle.relay_lanes.specs.declared.lane.Lane.{Lane}
use Rattle.relay_lanes.specs.declared.lane.Task.{Task}

-- the tasks of a lane in the order in which they begin: first those that were asked for early
abbrev pub tasks_of : Lane → List Task
tasks_of lane = lane.early.items ++ lane.tasks.items

-- the tasks of a lane with one more before the others of its kind: those that were asked for early, or the rest
abbrev pub with_first : Task → Lane → List Task
with_first task lane = if task.early then task ∷ tasks_of lane else lane.early.items ++ task ∷ lane.tasks.items

-- the tasks of a lane with one more after the others of its kind
abbrev pub with_last : Task → Lane → List Task
with_last task lane =
    if task.early then lane.early.items ++ task ∷ lane.tasks.items else tasks_of lane ++ task ∷ []

-- the message of the first of these tasks, if there is one
abbrev pub first_message : List Task → Option ℕ
first_message tasks = option_map (λ task. task.message) (slice_get tasks 0)

-- the task is for this message and next hop
abbrev pub is_for : ℕ → List ℕ → Task → Bool
is_for message name task = (task.message == message) && bytes_eq task.hop name

-- the task is for this message and next hop, and was asked for early
abbrev pub is_early_for : ℕ → List ℕ → Task → Bool
is_early_for message name task = task.early && is_for message name task

-- the tasks of a lane that weren't checked for being overdue since it was last emptied, in their order; those that were
-- asked for early don't count
abbrev pub unchecked_of : Lane → List Task
unchecked_of lane = drop (length lane.tasks.items - lane.unchecked) lane.tasks.items

-- the tasks before these
abbrev pub checked_of : Lane → List Task
checked_of lane = lane.early.items ++ take (length lane.tasks.items - lane.unchecked) lane.tasks.items
