-- Places that the postmaster withdraws: the outcome that ends them, and why none is added.
use Rattle.std.specs.Prelude.{◌≡◌, ◌≢◌, ◌⊎◌, ℕ, ◌==◌, Bool, true, false, ◌&&◌, List, [], map, Option, None, Some}
use Rattle.std.specs.List.{AllByRecursion, list_any}
use Rattle.relay_disk.specs.Device.{DiskWords}
use Rattle.relay_book.specs.declared.version.Version.TheVariants.{WithWithdrawal}
use Rattle.relay_book.specs.declared.change.Outcome.{Outcome}
use Rattle.relay_book.specs.declared.change.Ruling.{Ruling}
use Rattle.relay_book.specs.declared.change.Verdict.TheVariants.{Withdrawn}
use Rattle.relay_book.specs.declared.change.Withdrawal.{Withdrawal}
use Rattle.relay_book.specs.declared.change.Change.{Change}
use Rattle.relay_book.specs.declared.message.Place.{Place}
use Rattle.relay_book.specs.declared.message.Message.{Message}
use Rattle.relay_book.specs.Queue.{holds_at, message_of}
use Rattle.relay_spool.specs.Spool.{Passes}
use Rattle.relay_records.specs.Records.{IsStopped, Kept}
use Rattle.relay_records.specs.declared.fault.NodeFault.{NodeFault}
use Rattle.relay_records.specs.declared.fault.NodeFault.TheVariants.{NoMemory, Stopped, Unknown, Busy, Full}
use Rattle.relay_report.specs.Report.{Reporter}
use Rattle.relay_attempts.specs.declared.runs.Run.{Run}
use Rattle.relay_attempts.specs.AddedOutcome.{AddsOutcome, CutsOutcome, GrowsBy, HasNoRoom}
use Rattle.relay_attempts.specs.Hops.{places_where}

-- the number of a place is among these
abbrev pub is_named : List ℕ → ℕ → Bool
is_named names n = list_any (λ name. name == n) names

-- the place is held, and its number is among these
abbrev pub is_held_of : List ℕ → ℕ → Place → Bool
is_held_of names n place = place.held && is_named names n

-- the held places of a message that are named, in order
abbrev pub named_places : List ℕ → Message → List ℕ
named_places names message = places_where (is_held_of names) 0 message.places

-- the places, each with the postmaster's verdict
abbrev pub withdrawn : Withdrawal → List ℕ → List Ruling
withdrawn withdrawal places = map (λ place. record { place = place; verdict = Withdrawn withdrawal }) places

-- the outcome for a message by which the postmaster ends the named places: of the third version, without a hop, and
-- with no report yet
abbrev pub withdrawal_of : ℕ → ℕ → Withdrawal → List ℕ → Message → Outcome
withdrawal_of number at withdrawal names message = record {
  version = WithWithdrawal;
  message = number;
  at = at;
  hop = [];
  rulings = withdrawn withdrawal (named_places names message);
  report = [];
}

-- a place of the message is named, and each that is named is held
pub record NamesHeld (names : List ℕ) (message : Message) : Type 0 where
  pub some : names ≢ []
  pub held : AllByRecursion (λ name. holds_at message.places name ≡ true) names

-- an attempt for this message tries one of the places
abbrev pub tries_one : ℕ → List ℕ → Option Run → Bool
tries_one number names None = false
tries_one number names (Some run) = run.message == number && list_any (is_named names) run.places.items

-- so does one that is running
abbrev pub is_tried : List (Option Run) → ℕ → List ℕ → Bool
is_tried runs number names = list_any (tries_one number names) runs

-- The words below are of places of the message of a number, which are withdrawn at a time.
module _ {D : Type 0} (honest : Type 0) (words : DiskWords D) (reporter : Reporter) (number at : ℕ)
    (withdrawal : Withdrawal) (names : List ℕ) where
  -- exactly the named places, each of which was held, have ended, in the one change that was added, with the report
  -- that is owed, by four calls of the device
  pub record AddsWithdrawal (changes : List Change) (old new : Kept D) (added : ℕ) : Type 0 where
    pub message : Message
    pub found : message_of old.queue.messages number ≡ Some message
    pub named : NamesHeld names message
    pub adds : AddsOutcome honest words reporter changes (withdrawal_of number at withdrawal names message) 0 new added
    pub calls : Passes words 4 old.spool.disk new.spool.disk

  -- a stop came while they ended
  pub record CutsWithdrawal (changes : List Change) (old new : Kept D) : Type 0 where
    pub message : Message
    pub found : message_of old.queue.messages number ≡ Some message
    pub named : NamesHeld names message
    pub cuts : CutsOutcome honest words reporter changes (withdrawal_of number at withdrawal names message) 0 new

-- What their end did to the records, whatever list they keep, and why none has ended, beside these attempts.
module _ {D : Type 0} (words : DiskWords D) (reporter : Reporter) (runs : List (Option Run)) (number at : ℕ)
    (withdrawal : Withdrawal) (names : List ℕ) where
  -- exactly the named places have ended, none of which an attempt tries, with the report that is owed, by the change of
  -- this number
  pub record EndsWithdrawal (old new : Kept D) (added : ℕ) : Type 0 where
    pub message : Message
    pub found : message_of old.queue.messages number ≡ Some message
    pub named : NamesHeld names message
    pub free : is_tried runs number names ≡ false
    pub grows : GrowsBy words reporter (withdrawal_of number at withdrawal names message) old new added

  -- the message is queued, and holds the named places
  pub record HasNamed (old : Kept D) : Type 0 where
    pub message : Message
    pub found : message_of old.queue.messages number ≡ Some message
    pub named : NamesHeld names message

  -- the message is queued, and no place is named, or one that it doesn't hold
  pub record LacksNamed (old : Kept D) : Type 0 where
    pub message : Message
    pub found : message_of old.queue.messages number ≡ Some message
    pub unnamed : NamesHeld names message → ⊥

  -- the message is queued, holds the named places, and there is no room for the outcome that ends them
  pub record HasNoRoomToWithdraw (old : Kept D) : Type 0 where
    pub message : Message
    pub found : message_of old.queue.messages number ≡ Some message
    pub named : NamesHeld names message
    pub room : HasNoRoom reporter (withdrawal_of number at withdrawal names message) old

  -- why none has ended: the first of these, and lack of memory or of room after them
  abbrev pub RefusesToWithdraw : Kept D → Kept D → NodeFault → Type 0
  RefusesToWithdraw old new NoMemory =
      (old.spool.live ≡ true) × HasNamed old × (is_tried runs number names ≡ false) × (new ≡ old)
  RefusesToWithdraw old new Stopped = ((old.spool.live ≡ false) × (new ≡ old)) ⊎ IsStopped words 4 old new
  RefusesToWithdraw old new Unknown =
      (old.spool.live ≡ true) × ((message_of old.queue.messages number ≡ None) ⊎ LacksNamed old) × (new ≡ old)
  RefusesToWithdraw old new Busy =
      (old.spool.live ≡ true) × HasNamed old × (is_tried runs number names ≡ true) × (new ≡ old)
  RefusesToWithdraw old new Full =
      (old.spool.live ≡ true) × (is_tried runs number names ≡ false) × (new ≡ old) × HasNoRoomToWithdraw old
  RefusesToWithdraw old new other = ⊥
