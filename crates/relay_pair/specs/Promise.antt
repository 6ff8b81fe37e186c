-- What a run of relays promises for mail (RFC 5321, section 6.1).
use Rattle.std.specs.Prelude.{List, ◌++◌}
use Rattle.std.specs.List.{AllByRecursion, Contains}
use Rattle.relay_disk.specs.Device.{DiskWords}
use Rattle.relay_book.specs.declared.change.Change.{Change}
use Rattle.relay_world.specs.Bound.{IsBound}
use Rattle.relay_world.specs.GivingUp.{Withdrawing}
use Rattle.relay_world.specs.Growth.{AttemptsGrow, HasGrown, ListsGrow}
use Rattle.relay_world.specs.HopLinks.{AreLinkedToHops}
use Rattle.relay_world.specs.Leaks.{NothingLeaks}
use Rattle.relay_world.specs.Lines.{HasSources}
use Rattle.relay_world.specs.Once.{IsTriedOnce}
use Rattle.relay_world.specs.Promise.{KeepsPromise}
use Rattle.relay_world.specs.World.{World}
use Rattle.relay_events.specs.declared.event.Event.{Event}
use Rattle.relay_events.specs.Happened.{HasHappenedAsking, asked_for}

-- The mail of relays after a run. The relays had lists of changes with the invariant, tried each place once, and had
-- ledger lines with their sources. Now each node has a list of changes that its spool holds and that begins with its
-- earlier list, and by these lists the promise is kept. Nothing that was recorded, written or read before is gone; ends
-- of links belong to whom they did, and broken links are unchanged; attempts have gone on or ended. Each seat in use at
-- a node that is up is a link's, and each attempt number in use a running attempt's. All of this came by events of the
-- world, each of which adds the accept or outcome that it leads to, at the clock's time. By these events the postmaster
-- asked for exactly the withdrawals in `asked`, the last one first.
pub record KeepsItsPromise {D : Type 0} (honest : Type 0) (words : DiskWords D) (asked : List Withdrawing)
    (old new : World D) : Type 0 where
  pub lists : List (List Change)
  pub theirs : IsBound honest words new lists
  pub before : List (List Change)
  pub were : IsBound honest words old before
  -- with whatever he had asked for before by which it was so, be it nothing
  pub promise : (earlier : List Withdrawing) → IsTriedOnce old before earlier
      → KeepsPromise honest words new lists (asked ++ earlier)
  pub grown : HasGrown old new
  pub attempts : AttemptsGrow old new
  pub leaks : NothingLeaks new
  pub asked_before : List Withdrawing
  pub once_before : IsTriedOnce old before asked_before
  pub linked_before : AreLinkedToHops old
  pub sources_before : HasSources old before
  pub longer : ListsGrow before lists
  pub happened : HasHappenedAsking honest words asked old new

-- One of the events asks for this withdrawal.
pub record IsAskedBy (events : List Event) (one : Withdrawing) : Type 0 where
  pub event : Event
  pub there : Contains events event
  pub asks : Contains (asked_for event) one

-- The promise for a run of events: each withdrawal was asked for by one of them, so there is none if no event asks for
-- one.
pub record RunKeepsItsPromise {D : Type 0} (honest : Type 0) (words : DiskWords D) (events : List Event)
    (old new : World D) : Type 0 where
  pub asked : List Withdrawing
  pub by_events : AllByRecursion (IsAskedBy events) asked
  pub keeps : KeepsItsPromise honest words asked old new
