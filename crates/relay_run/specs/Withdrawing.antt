-- Requests to return or discard mail: exactly the named places end, and nothing else changes.
use Rattle.std.specs.Prelude.{◌≡◌, ℕ, List, [], ◌++◌, Result, Ok, Err, drop, length, map}
use Rattle.relay_disk.specs.Device.{DiskWords}
use Rattle.relay_book.specs.declared.change.Withdrawal.{Withdrawal}
use Rattle.relay_control.specs.declared.named.Named.{Named}
use Rattle.relay_loop.specs.Relay.{RelayState}
use Rattle.relay_loop.specs.Withdrawing.{MessagePlaces, RefusesToWithdrawAll, WithdrawsAll}
use Rattle.relay_loop.specs.declared.withdrawing.Withdrawn.{Withdrawn as Group}
use Rattle.relay_records.specs.declared.fault.NodeFault.{NodeFault}
use Rattle.relay_records.specs.declared.fault.NodeFault.TheVariants as fault
use Rattle.relay_run.specs.declared.withdrawing.Outcome.{Outcome}
use Rattle.relay_run.specs.declared.withdrawing.Outcome.TheVariants.{Withdrawn, Unknown, Busy, Full}

-- the places that a request names
abbrev pub places_of : Named → MessagePlaces
places_of named = record { message = named.message; places = named.places.items }

-- the outcome of a message with this result; no other faults come
abbrev pub outcome_of : Result ℕ NodeFault → Outcome
outcome_of (Ok number) = Withdrawn
outcome_of (Err fault.Busy) = Busy
outcome_of (Err fault.Full) = Full
outcome_of (Err other) = Unknown

-- The words below are of places that the postmaster withdraws at a time.
module _ {D : Type 0} (honest : Type 0) (words : DiskWords D) (at : ℕ) (withdrawal : Withdrawal) where
  -- The first of the messages have these outcomes: exactly the named places of those that are withdrawn have ended, all
  -- by changes that were added at once. Nothing has changed for the others.
  pub record WithdrawsGroup (names : List Named) (outcomes : List Outcome) (old new : RelayState D) : Type 0 where
    pub group : Group
    pub withdraws : WithdrawsAll honest words at withdrawal (map places_of names) old new group
    pub outcomes_are : outcomes ≡ map outcome_of group.results.items

  -- these are the outcomes of the messages, one group after the other; memory ran out before those that have none
  pub data HaveOutcomes : List Named → List Outcome → RelayState D → RelayState D → Type 0 where
    HaveNone : (names : List Named) (relay : RelayState D) → HaveOutcomes names [] relay relay
    HaveMore : (names : List Named) (outcomes more : List Outcome) (old between new : RelayState D)
        → HaveOutcomes names outcomes old between
        → WithdrawsGroup (drop (length outcomes) names) more between new
        → HaveOutcomes names (outcomes ++ more) old new

  -- the device failed at the group of the first messages without an outcome: a stop leaves all of its changes or none
  pub record FailsAmong (names : List Named) (old new : RelayState D) : Type 0 where
    pub outcomes : List Outcome
    pub between : RelayState D
    pub have : HaveOutcomes names outcomes old between
    pub fails : RefusesToWithdrawAll honest words at withdrawal (map places_of (drop (length outcomes) names)) between
        new fault.Stopped
