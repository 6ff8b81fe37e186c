-- What a relay does with the octets of several clients and next hops by the calls of its node, one after another, if
-- their changes go to the spool together. This is so whatever was said with a client or told of an attempt before, and
-- whichever changes the node keeps.
use Rattle.std.specs.Prelude.{◌≡◌, ◌≢◌, ◌⊎◌, ℕ, List, [], ◌∷◌, ◌++◌, length, Some, None, Result, Ok, Err}
use Rattle.relay_disk.specs.Device.{DiskWords}
use Rattle.relay_slots.specs.Slots.{slot_at}
use Rattle.relay_book.specs.declared.change.Change.{Change}
use Rattle.relay_records.specs.Staged.{Awaits, Row, Settles, no_row}
use Rattle.relay_records.specs.declared.fault.NodeFault.{NodeFault}
use Rattle.relay_records.specs.declared.fault.NodeFault.TheVariants.{Unknown}
use Rattle.relay_attempts.specs.declared.reply.Replied.{Replied}
use Rattle.relay_attempts.specs.Reply.{Told}
use Rattle.relay_node.specs.declared.receive.Received.{Received}
use Rattle.relay_node.specs.Attempts.{Tells}
use Rattle.relay_node.specs.StagedReplies.{RefusesToReplyInto, RepliesInto, UsesReplyInto}
use Rattle.relay_node.specs.Staging.{ReceivesAfter, RefusesToReceiveInto, UsesPiece}
use Rattle.relay_loop.specs.declared.clients.Heard.{Heard}
use Rattle.relay_loop.specs.declared.group.Group.{Group}
use Rattle.relay_loop.specs.declared.group.Piece.{Piece}
use Rattle.relay_loop.specs.declared.hops.Answered.{Answered}
use Rattle.relay_loop.specs.declared.replying.ReplyPiece.{ReplyPiece}
use Rattle.relay_loop.specs.Clients as clients
use Rattle.relay_loop.specs.GroupPieces.{IsLaden, unread}
use Rattle.relay_loop.specs.GroupReplies.{unheard}
use Rattle.relay_loop.specs.Hops as hops
use Rattle.relay_loop.specs.Outboxes.{unwritten_at}
use Rattle.relay_loop.specs.Relay.{OnlyClient, OnlyHop, RelayState}
use Rattle.relay_report.specs.Report.{reporter_of}

-- Below: a piece of a client, or a reply of a next hop, that a relay was given after a row.
module _ {D : Type 0} (honest : Type 0) (words : DiskWords D) (at : ℕ) (old : RelayState D) (row : Row)
    (new : RelayState D) (left : Row) where
  -- the piece was left unread, because octets for its client were unwritten or the row was full
  pub record LeavesPiece (piece : Piece) (heard : Heard) : Type 0 where
    pub connection : slot_at old.clients piece.session ≢ None
    pub why : (unwritten_at old.clients piece.session ≢ []) ⊎ IsLaden row
    pub heard_is : heard ≡ unread
    pub same : new ≡ old
    pub row_is : left ≡ row

  -- The piece was heard, with nothing unwritten: the node's call returned this. What the session writes is unwritten,
  -- or is the last of its connection if the session has closed.
  pub record TakesPiece (piece : Piece) (heard : Heard) : Type 0 where
    pub connection : slot_at old.clients piece.session ≡ Some []
    pub has_room : IsLaden row → ⊥
    pub received : Received
    pub receives : (changes pending : List Change) → Awaits honest words old.node.records changes pending row
        → ReceivesAfter honest words old.node.config changes pending at piece.session piece.octets.now old.node row
        new.node left received
    pub uses : UsesPiece (length piece.octets.now) received
    pub heard_is : clients.IsHeardFrom received heard
    pub set : clients.IsSetTo received.close piece.session received.out.items heard.last new.clients

  -- the piece was refused: its connection is gone, and the node is as its own call leaves it
  pub record RefusesPiece (piece : Piece) (fault : NodeFault) : Type 0 where
    pub gone : slot_at new.clients piece.session ≡ None
    pub leaves : RefusesToReceiveInto piece.session old.node new.node row left fault
    pub unknown : fault ≡ Unknown → clients.IsUnknown old piece.session
    pub connection : fault ≢ Unknown → slot_at old.clients piece.session ≢ None

  abbrev pub HearsBy : Piece → Result Heard NodeFault → Type 0
  HearsBy piece (Ok heard) = LeavesPiece piece heard ⊎ TakesPiece piece heard
  HearsBy piece (Err fault) = RefusesPiece piece fault

  -- the piece has this result, and nothing else happened
  pub record HearsPiece (piece : Piece) (result : Result Heard NodeFault) : Type 0 where
    pub by : HearsBy piece result
    pub only : OnlyClient old new piece.session

  -- the reply was left unread, because octets for its next hop were unwritten or the row was full
  pub record LeavesReply (reply : ReplyPiece) (answered : Answered) : Type 0 where
    pub connection : slot_at old.hops reply.attempt ≢ None
    pub why : (unwritten_at old.hops reply.attempt ≢ []) ⊎ IsLaden row
    pub answered_is : answered ≡ unheard
    pub same : new ≡ old
    pub row_is : left ≡ row

  -- The reply was read, with nothing unwritten: the node's call returned this. What the attempt writes is unwritten, or
  -- is the last of its connection if the attempt has ended.
  pub record TakesReply (reply : ReplyPiece) (answered : Answered) : Type 0 where
    pub connection : slot_at old.hops reply.attempt ≡ Some []
    pub has_room : IsLaden row → ⊥
    pub replied : Replied
    pub replies : (changes pending : List Change) (told : Told)
        → Awaits honest words old.node.records changes pending row
        → Tells old.node.config.host (changes ++ pending) old.node.attempts reply.attempt told
        → RepliesInto honest words (reporter_of old.node.config) at changes pending reply.attempt told row
        reply.octets.now old.node new.node left replied replied.change
    pub uses : UsesReplyInto at reply.attempt (length reply.octets.now) old.node new.node row left replied
    pub answered_is : hops.IsAnsweredBy replied answered
    pub set : hops.IsSetTo replied.change reply.attempt replied.out.items answered.last new.hops

  -- the reply was refused: its connection is gone, and the node is as its own call leaves it
  pub record RefusesReply (reply : ReplyPiece) (fault : NodeFault) : Type 0 where
    pub gone : slot_at new.hops reply.attempt ≡ None
    pub leaves : RefusesToReplyInto reply.attempt old.node new.node row left fault
    pub unknown : fault ≡ Unknown → hops.IsUnknown old reply.attempt
    pub connection : fault ≢ Unknown → slot_at old.hops reply.attempt ≢ None

  abbrev pub ReadsBy : ReplyPiece → Result Answered NodeFault → Type 0
  ReadsBy reply (Ok answered) = LeavesReply reply answered ⊎ TakesReply reply answered
  ReadsBy reply (Err fault) = RefusesReply reply fault

  -- the reply has this result, and nothing else happened
  pub record ReadsReply (reply : ReplyPiece) (result : Result Answered NodeFault) : Type 0 where
    pub by : ReadsBy reply result
    pub only : OnlyHop old new reply.attempt

module _ {D : Type 0} (honest : Type 0) (words : DiskWords D) (at : ℕ) where
  -- the pieces have these results, one after another
  abbrev pub HearsPieces
      : List Piece → List (Result Heard NodeFault) → RelayState D → Row → RelayState D → Row → Type 0
  HearsPieces [] results old row new left = (results ≡ []) × (new ≡ old) × (left ≡ row)
  HearsPieces (piece ∷ pieces) results old row new left =
      (result : Result Heard NodeFault) × (rest : List (Result Heard NodeFault)) × (results ≡ result ∷ rest)
      × (mid : RelayState D) × (between : Row) × HearsPiece honest words at old row mid between piece result
      × HearsPieces pieces rest mid between new left

  -- the replies have these results, one after another
  abbrev pub ReadsReplies
      : List ReplyPiece → List (Result Answered NodeFault) → RelayState D → Row → RelayState D → Row → Type 0
  ReadsReplies [] results old row new left = (results ≡ []) × (new ≡ old) × (left ≡ row)
  ReadsReplies (reply ∷ replies) results old row new left =
      (result : Result Answered NodeFault) × (rest : List (Result Answered NodeFault)) × (results ≡ result ∷ rest)
      × (mid : RelayState D) × (between : Row) × ReadsReply honest words at old row mid between reply result
      × ReadsReplies replies rest mid between new left

-- The changes of a row were added to the spool together, and nothing else happened.
pub record Adds {D : Type 0} (honest : Type 0) (words : DiskWords D) (old : RelayState D) (row : Row)
    (new : RelayState D) : Type 0 where
  pub settles : (changes pending : List Change) → Awaits honest words old.node.records changes pending row
      → Settles honest words new.node.records changes pending row.notes
  pub noted : new.node.records.noted ≡ old.node.records.noted
  pub config : new.node.config ≡ old.node.config
  pub seats : new.node.seats ≡ old.node.seats
  pub attempts : new.node.attempts ≡ old.node.attempts
  pub clients : new.clients ≡ old.clients
  pub hops : new.hops ≡ old.hops

-- The pieces have these results, and after them the replies, from an empty row on; then the changes of the row were
-- added to the spool together.
pub record HearsGroup {D : Type 0} (honest : Type 0) (words : DiskWords D) (at : ℕ) (pieces : List Piece)
    (replies : List ReplyPiece) (old new : RelayState D) (group : Group)
    : Type 0 where
  pub between : RelayState D
  pub beside : Row
  pub hears : HearsPieces honest words at pieces group.heard.items old no_row between beside
  pub before : RelayState D
  pub row : Row
  pub reads : ReadsReplies honest words at replies group.answered.items between beside before row
  pub notes : group.notes.items ≡ row.notes
  pub adds : Adds honest words before row new
