-- What a turn of the clients does with the relay's other side: attempts hear the replies that were passed on, in one
-- call, and nothing else touches them. The configuration stays.
use Rattle.std.specs.Prelude.{◌≡◌, ℕ, List, [], Option, None, Some, length}
use Rattle.relay_disk.specs.Device.{DiskWords}
use Rattle.relay_slots.specs.Slots.{slot_at}
use Rattle.relay_book.specs.declared.change.Change.{Change}
use Rattle.relay_records.specs.Records.{Keeps}
use Rattle.relay_loop.specs.declared.group.Group.{Group}
use Rattle.relay_loop.specs.declared.group.Piece.{Piece}
use Rattle.relay_loop.specs.declared.replying.ReplyPiece.{ReplyPiece}
use Rattle.relay_loop.specs.GroupReplies.{AreToOthers}
use Rattle.relay_loop.specs.Groups.{ReadsAll}
use Rattle.relay_loop.specs.Relay.{RelayState}
use Rattle.relay_connections.specs.declared.hearing.Replied.{Replied}

-- No change was added, no attempt was touched, nor its connection, and the configuration is the same.
pub record LeavesMail {D : Type 0} (old new : RelayState D) : Type 0 where
  pub records : new.node.records ≡ old.node.records
  pub config : new.node.config ≡ old.node.config
  pub attempts : new.node.attempts ≡ old.node.attempts
  pub hops : new.hops ≡ old.hops

-- Only attempts with one of these replies were touched, and their connections. The configuration is the same.
pub record OnlyRepliedTo {D : Type 0} (replies : List ReplyPiece) (old new : RelayState D) : Type 0 where
  pub config : new.node.config ≡ old.node.config
  pub attempts : (attempt : ℕ) → AreToOthers attempt replies
      → slot_at new.node.attempts attempt ≡ slot_at old.node.attempts attempt
  pub hops : (attempt : ℕ) → AreToOthers attempt replies → slot_at new.hops attempt ≡ slot_at old.hops attempt

-- Below: these replies, in a turn at a time, of a relay on a disk with these words.
module _ {D : Type 0} (honest : Type 0) (words : DiskWords D) (replies : List ReplyPiece) (at : ℕ)
    (old new : RelayState D) where
  -- The attempts have heard the replies, all in one call, after nothing but clients' doings, and these are the results,
  -- in their order. Nothing has touched an attempt after that.
  pub record HearReplies (replied : Replied) : Type 0 where
    pub before : RelayState D
    pub first : LeavesMail old before
    pub pieces : List Piece
    pub group : Group
    pub answered : group.answered ≡ replied.answered
    pub notes : group.notes ≡ replied.notes
    pub each : length replied.answered.items ≡ length replies
    pub after : RelayState D
    pub reads : (changes : List Change) → Keeps honest words before.node.records changes
        → ReadsAll honest words changes at pieces replies before after group
    pub only : OnlyRepliedTo replies before after
    pub last : OnlyRepliedTo [] after new

  -- they have, or, without results, no attempt was touched
  abbrev pub HearRepliesIf : Option Replied → Type 0
  HearRepliesIf None = OnlyRepliedTo [] old new
  HearRepliesIf (Some replied) = HearReplies replied
