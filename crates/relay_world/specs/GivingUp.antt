-- Places that a node gives up without an attempt: since they have no hop, or since the postmaster withdraws them.
use Rattle.std.specs.Prelude.{◌≡◌, ℕ, true, false, List, [], ◌∷◌, Option, Some}
use Rattle.std.specs.List.{Contains}
use Rattle.relay_disk.specs.Device.{DiskWords}
use Rattle.relay_routes.specs.Routes.{RouteTable}
use Rattle.relay_spool.specs.Spool.{Passes}
use Rattle.relay_book.specs.declared.change.Change.{Change}
use Rattle.relay_book.specs.declared.change.Outcome.{Outcome}
use Rattle.relay_book.specs.declared.change.Withdrawal.{Withdrawal}
use Rattle.relay_book.specs.declared.message.Message.{Message}
use Rattle.relay_book.specs.Queue.{message_of}
use Rattle.relay_records.specs.Records.{Kept}
use Rattle.relay_report.specs.Report.{Reporter}
use Rattle.relay_attempts.specs.declared.runs.Run.{Run}
use Rattle.relay_attempts.specs.AddedOutcome.{AddsOutcome, CutsOutcome}
use Rattle.relay_attempts.specs.Outcomes.{unroutable}
use Rattle.relay_attempts.specs.Withdrawals.{NamesHeld, is_named, is_tried, withdrawal_of}

-- why: the held places without a hop; or the named places, which the postmaster returns or discards
pub data Reason : Type 0 where
  NoHop : Reason
  Postmaster : (withdrawal : Withdrawal) (names : List ℕ) → Reason

-- the outcome that ends them, but for its report
abbrev pub outcome_for : Reason → RouteTable → ℕ → ℕ → Message → Outcome
outcome_for NoHop table number at message = unroutable table number at message
outcome_for (Postmaster withdrawal names) table number at message = withdrawal_of number at withdrawal names message

-- what the postmaster names is held
abbrev pub AreNamed : Reason → Message → Type 0
AreNamed NoHop message = Unit {0}
AreNamed (Postmaster withdrawal names) message = NamesHeld names message

-- no attempt of the node tries a place of the message that the postmaster names
abbrev pub AreFree : Reason → ℕ → List (Option Run) → Type 0
AreFree NoHop number runs = Unit {0}
AreFree (Postmaster withdrawal names) number runs = is_tried runs number names ≡ false

module _ {D : Type 0} (honest : Type 0) (words : DiskWords D) (reporter : Reporter) (table : RouteTable)
    (reason : Reason) (number at : ℕ) where
  -- exactly these places have ended, in the one change that was added, with the report that is owed, by four calls of
  -- the device
  pub record AddsGivenUp (changes : List Change) (old new : Kept D) (added : ℕ) : Type 0 where
    pub message : Message
    pub found : message_of old.queue.messages number ≡ Some message
    pub named : AreNamed reason message
    pub adds : AddsOutcome honest words reporter changes (outcome_for reason table number at message) 0 new added
    pub calls : Passes words 4 old.spool.disk new.spool.disk

  -- a stop came while they ended
  pub record CutsGivenUp (changes : List Change) (old new : Kept D) : Type 0 where
    pub message : Message
    pub found : message_of old.queue.messages number ≡ Some message
    pub named : AreNamed reason message
    pub cuts : CutsOutcome honest words reporter changes (outcome_for reason table number at message) 0 new

-- the postmaster has named places of a message of a node, to withdraw them so
pub record Withdrawing : Type 0 where
  pub node : ℕ
  pub message : ℕ
  pub withdrawal : Withdrawal
  pub names : List ℕ

-- what he asks of a node for a message, if it is he
abbrev pub asked_by : Reason → ℕ → ℕ → List Withdrawing
asked_by NoHop node message = []
asked_by (Postmaster withdrawal names) node message =
    record { node = node; message = message; withdrawal = withdrawal; names = names } ∷ []

-- among these he has asked so for this place
pub record IsAsked (asked : List Withdrawing) (node message place : ℕ) (withdrawal : Withdrawal) : Type 0 where
  pub names : List ℕ
  pub named : is_named names place ≡ true
  pub there : Contains asked (record { node = node; message = message; withdrawal = withdrawal; names = names })
