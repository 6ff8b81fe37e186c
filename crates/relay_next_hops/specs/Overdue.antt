-- Overdue mail: tasks at a next hop on hold that have been due for too long.
use Rattle.std.specs.Prelude.{◌≡◌, ◌+◌, ◌*◌, ℕ, Bool, false, nat_lt, ◌&&◌, List, [], ◌∷◌, ◌++◌, Option}
use Rattle.std.specs.Prelude.{take, drop, find, slice_get}
use Rattle.std.specs.List.{list_any}
use Rattle.std.specs.Option.{option_map_or}
use Rattle.relay_disk.specs.Device.{DiskWords}
use Rattle.relay_book.specs.Queue.{message_of}
use Rattle.relay_book.specs.declared.message.Message.{Message}
use Rattle.relay_book.specs.declared.message.Place.{Place}
use Rattle.relay_loop.specs.Relay.{RelayState}
use Rattle.relay_lanes.specs.Lane.{checked_of, unchecked_of}
use Rattle.relay_lanes.specs.declared.lane.Task.{Task}
use Rattle.relay_next_hops.specs.Lanes.{tasks_at}
use Rattle.relay_next_hops.specs.Losses.{IsRecordedOrRefused}
use Rattle.relay_next_hops.specs.Starting.{IsOfTask}
use Rattle.relay_next_hops.specs.declared.delivery.Delivery.{Delivery}
use Rattle.relay_next_hops.specs.declared.lanes.Lanes.{Lanes}

-- profile: at this time the place is held, and has been due for more than four hours
abbrev pub is_late : ℕ → Place → Bool
is_late at place = place.held && nat_lt (place.due + 4 * 60 * 60) at

-- a place of the message is late
abbrev pub is_overdue : ℕ → Option Message → Bool
is_overdue at message = option_map_or (λ message. list_any (is_late at) message.places) message false

-- the message of the task is overdue
abbrev pub is_overdue_task : ℕ → List (ℕ × Message) → Task → Bool
is_overdue_task at messages task = is_overdue at (message_of messages task.message)

-- the unchecked tasks of the lane of a number, none if there is no such lane
abbrev pub unchecked_at : Lanes → ℕ → List Task
unchecked_at lanes number = option_map_or unchecked_of (slice_get lanes.lanes.items number) []

abbrev pub checked_at : Lanes → ℕ → List Task
checked_at lanes number = option_map_or checked_of (slice_get lanes.lanes.items number) []

-- the first overdue task of a lane, among its next unchecked ones
abbrev pub overdue_at : ℕ → List (ℕ × Message) → Lanes → ℕ → ℕ → Option Task
overdue_at at messages lanes lane most = find (is_overdue_task at messages) (take most (unchecked_at lanes lane))

-- the next unchecked tasks of the lane, at most this many, are checked, and stay where they are
pub record Checks (lane most : ℕ) (old new : Lanes) : Type 0 where
  pub tasks : tasks_at new lane ≡ tasks_at old lane
  pub unchecked : unchecked_at new lane ≡ drop most (unchecked_at old lane)

-- the task has left the lane, and the others stay in their order
pub record TakesOut (lane : ℕ) (task : Task) (old new : Lanes) : Type 0 where
  pub before : List Task
  pub rest : List Task
  pub there : tasks_at old lane ≡ before ++ task ∷ rest
  pub gone : tasks_at new lane ≡ before ++ rest

-- the loss of the task was recorded, or refused
pub record LosesTask {D : Type 0} (words : DiskWords D) (at : ℕ) (task : Task) (old new : RelayState D)
    : Type 0 where
  pub delivery : Delivery
  pub of_task : IsOfTask task delivery
  pub lost : IsRecordedOrRefused words at delivery old new
