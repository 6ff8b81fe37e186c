-- What a node does with replies to its attempts, where the outcomes of several of them come into its records together.
use Rattle.std.specs.Prelude.{◌≡◌, ◌≢◌, ◌⊎◌, ℕ, ◌≤◌, ◌^◌, ◌+◌, List, ◌++◌, length, take, Option, None, Some}
use Rattle.relay_disk.specs.Device.{DiskWords}
use Rattle.relay_slots.specs.Slots.{slot_at}
use Rattle.relay_spool.specs.Image.{room_of}
use Rattle.relay_book.specs.declared.change.Change.{Change}
use Rattle.relay_records.specs.Staged.{Row}
use Rattle.relay_records.specs.declared.fault.NodeFault.{NodeFault}
use Rattle.relay_records.specs.declared.fault.NodeFault.TheVariants.{NoMemory, Unknown, Full}
use Rattle.relay_attempts.specs.declared.reply.Replied.{Replied}
use Rattle.relay_attempts.specs.Reply.{Told, told_more}
use Rattle.relay_attempts.specs.Staging.{HasEndedAfter, MakesAfter}
use Rattle.relay_node.specs.Attempts.{Tells}
use Rattle.relay_node.specs.Node.{NodeState}
use Rattle.relay_report.specs.Report.{Reporter, reporter_of}

-- The words below are of a call at a time, for an attempt of which this is told, of a node that keeps these changes and
-- awaits those that are pending, which the row records.
module _ {D : Type 0} (honest : Type 0) (words : DiskWords D) (reporter : Reporter) (now : ℕ) (changes pending : List
    Change) (number : ℕ) (told : Told) (row : Row) where
  -- it goes on: all of the piece was read, and the records and the row are the same
  pub record ReadsOnAfter (piece : List ℕ) (old new : NodeState D) (left : Row) (replied : Replied) : Type 0 where
    pub used : replied.used ≡ length piece
    pub same : new.records ≡ old.records
    pub row_is : left ≡ row
    pub tells : Tells reporter.host (changes ++ pending) new.attempts number
        (told_more told (take replied.used piece) replied.out.items)

  -- it goes on, or it has ended, and its outcome is staged as the change of this number
  abbrev pub RepliesInto : List ℕ → NodeState D → NodeState D → Row → Replied → Option ℕ → Type 0
  RepliesInto piece old new left replied None = ReadsOnAfter piece old new left replied
  RepliesInto piece old new left replied (Some change) =
      HasEndedAfter honest words reporter changes pending row now number told piece new.records left new.attempts
      replied
      change

-- Octets of a piece of this length were used: all, unless a change was staged, and then the attempt is gone. No call
-- went to a device, and the row is as it was, or the largest spool has room for it.
pub record UsesReplyInto {D : Type 0} (now number len : ℕ) (old new : NodeState D) (row left : Row) (replied : Replied)
    : Type 0 where
  pub within : replied.used ≤ len
  pub whole : replied.change ≡ None → replied.used ≡ len
  pub gone : replied.change ≢ None → slot_at new.attempts number ≡ None
  pub makes : MakesAfter (reporter_of old.config) now number old.attempts new.attempts replied.used old.records
      new.records row left replied.change
  pub spool : new.records.spool ≡ old.records.spool
  pub noted : new.records.noted ≡ old.records.noted
  pub room : (left ≡ row) ⊎ (new.records.spool.size + room_of left.bodies ≤ 2 ^ 40)

-- the attempt is gone, and the records and the row are unchanged
pub record IsDroppedAfter {D : Type 0} (number : ℕ) (old new : NodeState D) (row left : Row) : Type 0 where
  pub attempt : slot_at new.attempts number ≡ None
  pub records : new.records ≡ old.records
  pub row_is : left ≡ row

-- what a live node leaves where it refuses such a reply
abbrev pub RefusesToReplyInto : {D : Type 0} → ℕ → NodeState D → NodeState D → Row → Row → NodeFault → Type 0
RefusesToReplyInto number old new row left NoMemory = IsDroppedAfter number old new row left
RefusesToReplyInto number old new row left Unknown = (new ≡ old) × (left ≡ row)
RefusesToReplyInto number old new row left Full = IsDroppedAfter number old new row left
RefusesToReplyInto number old new row left other = ⊥
