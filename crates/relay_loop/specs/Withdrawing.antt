-- What a relay does with mail of several messages that the postmaster withdraws, if their changes go to the spool
-- together.
use Rattle.std.specs.Prelude.{◌≡◌, ◌≢◌, ◌⊎◌, ℕ, Bool, true, false, List, [], ◌∷◌, ◌++◌, length, Some, Result, Ok}
use Rattle.std.specs.Prelude.{Err, slice_get}
use Rattle.relay_disk.specs.Device.{DiskWords}
use Rattle.relay_spool.specs.Pair.{HasBodies}
use Rattle.relay_spool.specs.Spool.{AtEachMoment}
use Rattle.relay_book.specs.declared.change.Change.{Change}
use Rattle.relay_book.specs.declared.change.Withdrawal.{Withdrawal}
use Rattle.relay_records.specs.declared.fault.NodeFault.{NodeFault}
use Rattle.relay_records.specs.declared.fault.NodeFault.TheVariants.{NoMemory, Stopped}
use Rattle.relay_records.specs.declared.noted.Noted.{Noted}
use Rattle.relay_records.specs.Records.{IsStopped, Keeps}
use Rattle.relay_records.specs.Staged.{CutsAll, GrowsAll, Row, Settles, StandsForOrWithAll, no_row}
use Rattle.relay_report.specs.Report.{reporter_of}
use Rattle.relay_attempts.specs.AddedOutcome.{reported_as}
use Rattle.relay_attempts.specs.StagedWithdrawals.{RefusesToStageWithdrawal, StagesWithdrawal}
use Rattle.relay_attempts.specs.Withdrawals.{withdrawal_of}
use Rattle.relay_loop.specs.declared.withdrawing.Chosen.{Chosen}
use Rattle.relay_loop.specs.declared.withdrawing.Withdrawn.{Withdrawn}
use Rattle.relay_loop.specs.GroupPieces.{IsLaden, IsUndone}
use Rattle.relay_loop.specs.Relay.{RelayState}

-- places of the message of a number
pub record MessagePlaces : Type 0 where
  pub message : ℕ
  pub places : List ℕ

-- those that a caller has chosen
abbrev pub choice_of : Chosen → MessagePlaces
choice_of chosen = record { message = chosen.message; places = chosen.places.now }

-- the configuration, the sessions, the attempts and all connections are the same
pub record KeepsAllButMail {D : Type 0} (old new : RelayState D) : Type 0 where
  pub config : new.node.config ≡ old.node.config
  pub seats : new.node.seats ≡ old.node.seats
  pub attempts : new.node.attempts ≡ old.node.attempts
  pub clients : new.clients ≡ old.clients
  pub hops : new.hops ≡ old.hops

-- Below: places that are withdrawn at a time.
module _ {D : Type 0} (words : DiskWords D) (at : ℕ) (withdrawal : Withdrawal) where
  -- exactly these places, which the message held, have ended in the queue, by one change that was staged after the row
  -- under this number
  pub record Ends (choice : MessagePlaces) (old : RelayState D) (row : Row) (new : RelayState D) (left : Row)
      (more : List Change) (number : ℕ) : Type 0 where
    pub stages : StagesWithdrawal words (reporter_of old.node.config) old.node.attempts choice.message at withdrawal
        choice.places old.node.records new.node.records row left number
    pub more_is : more ≡ reported_as (withdrawal_of choice.message at withdrawal choice.places stages.message)
        stages.grows.report ∷ []

  -- they are refused for this reason, and nothing has changed
  pub record Refuses (choice : MessagePlaces) (old : RelayState D) (row : Row) (new : RelayState D) (left : Row)
      (more : List Change) (fault : NodeFault) : Type 0 where
    pub why : RefusesToStageWithdrawal words (reporter_of old.node.config) old.node.attempts choice.message at
        withdrawal choice.places old.node.records new.node.records row left fault
    pub other : fault ≢ NoMemory
    pub none : more ≡ []
    pub same : new ≡ old
    pub row_is : left ≡ row

  abbrev pub EndsOrRefuses
      : MessagePlaces → RelayState D → Row → RelayState D → Row → List Change → Result ℕ NodeFault → Type 0
  EndsOrRefuses choice old row new left more (Ok number) = Ends choice old row new left more number
  EndsOrRefuses choice old row new left more (Err fault) = Refuses choice old row new left more fault

  -- the places of a message have this result, and nothing else happened; the row wasn't full
  pub record WithdrawsOne (choice : MessagePlaces) (old : RelayState D) (row : Row) (new : RelayState D) (left : Row)
      (more : List Change) (result : Result ℕ NodeFault) : Type 0 where
    pub has_room : IsLaden row → ⊥
    pub by : EndsOrRefuses choice old row new left more result
    pub rest : KeepsAllButMail old new

  -- the first messages have these results, one after another, by these changes
  abbrev pub WithdrawsEach
      : List MessagePlaces → List (Result ℕ NodeFault) → RelayState D → Row → RelayState D → Row → List Change
      → Type 0
  WithdrawsEach choices [] old row new left all = (new ≡ old) × (left ≡ row) × (all ≡ [])
  WithdrawsEach [] (result ∷ results) old row new left all = ⊥
  WithdrawsEach (choice ∷ choices) (result ∷ results) old row new left all =
      (between : RelayState D) × (beside : Row) × (more : List Change) × (rest : List Change) × (all ≡ more ++ rest)
      × WithdrawsOne choice old row between beside more result
      × WithdrawsEach choices results between beside new left rest

  -- there was no memory to withdraw the places of the message after these results, which could have ended
  pub record HasNoMemory (choices : List MessagePlaces) (results : List (Result ℕ NodeFault)) (new : RelayState D)
      (left : Row) : Type 0 where
    pub choice : MessagePlaces
    pub next : slice_get choices (length results) ≡ Some choice
    pub has_room : IsLaden left → ⊥
    pub why : RefusesToStageWithdrawal words (reporter_of new.node.config) new.node.attempts choice.message at
        withdrawal choice.places new.node.records new.node.records left left NoMemory

  -- The first messages have these results, from this row on. The device wasn't called yet, and these changes are staged
  -- in the row. All messages have one, unless the row is full, or memory ran out.
  pub record WithdrawsSome (choices : List MessagePlaces) (results : List (Result ℕ NodeFault)) (is_short : Bool)
      (old : RelayState D) (row : Row) (new : RelayState D) (left : Row) (all : List Change) : Type 0 where
    pub each : WithdrawsEach choices results old row new left all
    pub undone : IsUndone old new
    pub short : is_short ≡ true → HasNoMemory choices results new left
    pub whole : is_short ≡ false → (length results ≡ length choices) ⊎ IsLaden left

-- Below: by a relay.
module _ {D : Type 0} (honest : Type 0) (words : DiskWords D) (at : ℕ) (withdrawal : Withdrawal) where
  -- All changes of the withdrawals were added at once to those that the relay kept, and nothing else happened after the
  -- results. A stop at any time of the call leaves all of them or none.
  pub record WithdrawsAll (choices : List MessagePlaces) (old new : RelayState D) (withdrawn : Withdrawn)
      : Type 0 where
    pub before : RelayState D
    pub row : Row
    pub all : List Change
    pub some : WithdrawsSome words at withdrawal choices withdrawn.results.items withdrawn.is_short old no_row before
        row all
    pub grows : GrowsAll words before.node.records row new.node.records
    pub noted : withdrawn.notes.items ≡ row.notes
    pub rest : KeepsAllButMail old new
    pub settles : (changes : List Change) → Keeps honest words old.node.records changes
        → Settles honest words new.node.records changes all withdrawn.notes.items
    pub stop : (changes : List Change) → Keeps honest words old.node.records changes → honest
        → AtEachMoment words old.node.records.spool.disk new.node.records.spool.disk
        (HasBodies (StandsForOrWithAll changes all))

  -- The device failed while the changes of the withdrawals were added: a stop leaves all of them or none.
  pub record CutsWithdrawals (choices : List MessagePlaces) (old new : RelayState D) : Type 0 where
    pub results : List (Result ℕ NodeFault)
    pub is_short : Bool
    pub before : RelayState D
    pub row : Row
    pub all : List Change
    pub some : WithdrawsSome words at withdrawal choices results is_short old no_row before row all
    pub stopped : IsStopped words 4 before.node.records new.node.records
    pub rest : KeepsAllButMail old new
    pub cuts : (changes : List Change) → Keeps honest words old.node.records changes
        → CutsAll honest words new.node.records changes all row.notes
    pub stop : (changes : List Change) → Keeps honest words old.node.records changes → honest
        → AtEachMoment words old.node.records.spool.disk new.node.records.spool.disk
        (HasBodies (StandsForOrWithAll changes all))

  -- what a call leaves that fails
  abbrev pub RefusesToWithdrawAll : List MessagePlaces → RelayState D → RelayState D → NodeFault → Type 0
  RefusesToWithdrawAll choices old new NoMemory = (old.node.records.spool.live ≡ true) × (new ≡ old)
  RefusesToWithdrawAll choices old new Stopped =
      ((old.node.records.spool.live ≡ false) × (new ≡ old)) ⊎ CutsWithdrawals choices old new
  RefusesToWithdrawAll choices old new other = ⊥
