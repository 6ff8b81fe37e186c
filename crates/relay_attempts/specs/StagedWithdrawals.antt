-- Places that the postmaster withdraws, if the changes of several messages come into the spool together: each is staged
-- with the report that is owed, in one change (RFC 3461, section 5.2).
use Rattle.std.specs.Prelude.{◌≡◌, ◌⊎◌, ℕ, true, false, List, Option, None, Some}
use Rattle.relay_disk.specs.Device.{DiskWords}
use Rattle.relay_book.specs.declared.change.Withdrawal.{Withdrawal}
use Rattle.relay_book.specs.declared.message.Message.{Message}
use Rattle.relay_book.specs.Queue.{message_of}
use Rattle.relay_records.specs.declared.fault.NodeFault.{NodeFault}
use Rattle.relay_records.specs.declared.fault.NodeFault.TheVariants.{NoMemory, Unknown, Busy, Full}
use Rattle.relay_records.specs.Records.{Kept}
use Rattle.relay_records.specs.Staged.{Row}
use Rattle.relay_report.specs.Report.{Reporter}
use Rattle.relay_attempts.specs.declared.runs.Run.{Run}
use Rattle.relay_attempts.specs.Staging.{GrowsRowBy, HasNoRoomAfter}
use Rattle.relay_attempts.specs.Withdrawals.{HasNamed, LacksNamed, NamesHeld, is_tried, withdrawal_of}

-- The words below are of places of the message of a number, which are withdrawn at a time, beside these attempts.
module _ {D : Type 0} (words : DiskWords D) (reporter : Reporter) (runs : List (Option Run)) (number at : ℕ)
    (withdrawal : Withdrawal) (names : List ℕ) where
  -- exactly the named places, each of which was held and none of which an attempt tries, end with the report that is
  -- owed, in the change that was staged after the row under this number
  pub record StagesWithdrawal (old new : Kept D) (row left : Row) (staged : ℕ) : Type 0 where
    pub message : Message
    pub found : message_of old.queue.messages number ≡ Some message
    pub named : NamesHeld names message
    pub free : is_tried runs number names ≡ false
    pub grows : GrowsRowBy reporter (withdrawal_of number at withdrawal names message) 0 old new row left staged

  -- the message is queued, holds the named places, and there is no room after the row for the outcome that ends them
  pub record HasNoRoomToStage (old : Kept D) (row : Row) : Type 0 where
    pub message : Message
    pub found : message_of old.queue.messages number ≡ Some message
    pub named : NamesHeld names message
    pub room : HasNoRoomAfter reporter (withdrawal_of number at withdrawal names message) old row

  -- why nothing was staged, the first of these, and lack of memory or of room after them: records and row are the same
  abbrev pub RefusesToStageWithdrawal : Kept D → Kept D → Row → Row → NodeFault → Type 0
  RefusesToStageWithdrawal old new row left NoMemory =
      HasNamed words reporter runs number at withdrawal names old × (is_tried runs number names ≡ false)
      × (new ≡ old) × (left ≡ row)
  RefusesToStageWithdrawal old new row left Unknown =
      ((message_of old.queue.messages number ≡ None) ⊎ LacksNamed words reporter runs number at withdrawal names old)
      × (new ≡ old) × (left ≡ row)
  RefusesToStageWithdrawal old new row left Busy =
      HasNamed words reporter runs number at withdrawal names old × (is_tried runs number names ≡ true)
      × (new ≡ old) × (left ≡ row)
  RefusesToStageWithdrawal old new row left Full =
      (is_tried runs number names ≡ false) × (new ≡ old) × (left ≡ row) × HasNoRoomToStage old row
  RefusesToStageWithdrawal old new row left other = ⊥
