-- The due mail at next hops, by lanes: the address of each lane, its running attempts, and its tasks.
use Rattle.std.specs.Prelude.{◌≡◌, ◌≢◌, ◌⊎◌, ◌==◌, ◌+◌, ◌-◌, ◌^◌, ℕ, false, true, List, [], Option, None, Some}
use Rattle.std.specs.Prelude.{Contains, slice_get}
use Rattle.std.specs.List.{list_any}
use Rattle.std.specs.Option.{option_map_or}
use Rattle.std.specs.declared.net.socket_addr.SocketAddrV4.{SocketAddrV4}
use Rattle.relay_lanes.specs.Lane.{tasks_of, with_first}
use Rattle.relay_lanes.specs.Numbers.{no_numbers}
use Rattle.relay_lanes.specs.Paces.{IsHeldAt, RunAsBefore, has_answered_at}
use Rattle.relay_lanes.specs.declared.lane.Task.{Task}
use Rattle.relay_next_hops.specs.declared.lanes.Lanes.{Lanes}
use Rattle.relay_next_hops.specs.declared.next_hops.NextHops.{NextHops}

-- the tick at which mail is due that isn't listed, according to the node
abbrev pub next_due_of : {S : Type 0} → NextHops S → ℕ
next_due_of next_hops = next_hops.lanes.next_due

-- the tasks of the lane of a number, in the order in which they begin; none if there is no such lane
abbrev pub tasks_at : Lanes → ℕ → List Task
tasks_at lanes number = option_map_or tasks_of (slice_get lanes.lanes.items number) []

-- the tasks of the lane of a number that were asked for early; none if there is no such lane
abbrev pub early_at : Lanes → ℕ → List Task
early_at lanes number = option_map_or (λ lane. lane.early.items) (slice_get lanes.lanes.items number) []

-- each lane keeps its address
abbrev pub KeepsPlaces : Lanes → Lanes → Type 0
KeepsPlaces old new = new.places ≡ old.places

-- each lane keeps its address, and its number of running attempts; a postmaster holds the same mail
pub record KeepsCounts (old new : Lanes) : Type 0 where
  pub places : new.places ≡ old.places
  pub held : new.held ≡ old.held
  pub runs : RunAsBefore old.paces new.paces

-- No address is known, nothing is listed, and a listing is requested, which asks the node for all numbers. No lane is
-- on hold.
pub record IsNew (most : ℕ) (lanes : Lanes) : Type 0 where
  pub limit : lanes.most ≡ most
  pub places : lanes.places ≡ []
  pub paces : lanes.paces ≡ []
  pub tasks : lanes.lanes.items ≡ []
  pub unroutable : lanes.unroutable.items ≡ []
  pub first_listing : lanes.next_number ≡ 0
  pub no_walk : lanes.queued ≡ no_numbers
  pub idle : lanes.is_listing ≡ false
  pub unknown : lanes.knows_all ≡ false
  pub stale : lanes.is_stale ≡ true
  pub opened : lanes.is_open ≡ true
  pub unheld : lanes.next_hold_end ≡ 2 ^ 64 - 1

-- No lane loses its address, and each has as many running attempts as before; lanes may have been added. A postmaster
-- holds the same mail.
pub record ListsMore (old new : Lanes) : Type 0 where
  pub held : new.held ≡ old.held
  pub places : (number : ℕ) (place : SocketAddrV4) → slice_get old.places number ≡ Some place
      → slice_get new.places number ≡ Some place
  pub runs : RunAsBefore old.paces new.paces

-- no lane is on hold at any tick that wasn't before
abbrev pub HoldsNoMore : Lanes → Lanes → Type 0
HoldsNoMore old new = (tick lane : ℕ) → IsHeldAt tick new.paces lane → IsHeldAt tick old.paces lane

-- lanes are open, or each has the tasks that it had, and they are open as before
abbrev pub OpensForMore : Lanes → Lanes → Type 0
OpensForMore old new = (new.is_open ≡ true)
    ⊎ ((new.is_open ≡ old.is_open) × ((lane : ℕ) → tasks_at new lane ≡ tasks_at old lane))

-- the message waits to be given up, or all due mail is to be listed again
abbrev pub IsListedUnroutable : ℕ → Lanes → Type 0
IsListedUnroutable message lanes = Contains lanes.unroutable.items message ⊎ (lanes.is_stale ≡ true)

-- The task is in front of its lane again, after those that were asked for early, unless it was itself. If it isn't, its
-- message or all due mail will be listed anyway, or there is no such lane.
abbrev pub IsPutBack : ℕ → Task → Lanes → Lanes → Type 0
IsPutBack lane task old new =
    (tasks_at new lane ≡ option_map_or (with_first task) (slice_get old.lanes.items lane) [])
    ⊎ (list_any (λ message. message == task.message) old.queued.left ≡ true)
    ⊎ (new.is_stale ≡ true)
    ⊎ (slice_get old.lanes.items lane ≡ None)

-- this is the lane so many places after the first, of this many in a circle
abbrev pub IsNth : ℕ → ℕ → ℕ → ℕ → Type 0
IsNth first count step lane = (first + step ≡ lane) ⊎ (first + step ≡ lane + count)

-- A call for one lane: each other lane keeps its tasks and its pace, no next hop counts as having answered that didn't
-- before, and lanes that were open stay open. A postmaster holds the same mail, the same messages wait to be given up,
-- the walk over the queue doesn't go on, and a requested listing stays so.
pub record OnlyLane (lane : ℕ) (old new : Lanes) : Type 0 where
  pub held : new.held ≡ old.held
  pub most : new.most ≡ old.most
  pub tasks : (other : ℕ) → other ≢ lane → tasks_at new other ≡ tasks_at old other
  pub paces : (other : ℕ) → other ≢ lane → slice_get new.paces other ≡ slice_get old.paces other
  pub silent : has_answered_at old.paces lane ≡ false → has_answered_at new.paces lane ≡ false
  pub opened : new.is_open ≡ old.is_open
  pub unroutable : new.unroutable ≡ old.unroutable
  pub walk : new.queued ≡ old.queued
  pub stale : old.is_stale ≡ true → new.is_stale ≡ true

-- nothing may begin that couldn't before
abbrev pub closed : Lanes → Lanes
closed lanes = record lanes { is_open = false }

-- this lane is looked at first, and the next free connection is reserved for one that waits
abbrev pub turned_to : ℕ → Option ℕ → Lanes → Lanes
turned_to first waiting lanes = record lanes { first = first; waiting = waiting }
