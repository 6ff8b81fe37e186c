-- What a relay does with the octets of several clients and next hops, if their changes go to the spool together.
use Rattle.std.specs.Prelude.{◌≡◌, ℕ, false, true, List, [], Option, None, Result}
use Rattle.std.specs.List.{AllByRecursion}
use Rattle.relay_disk.specs.Device.{DiskWords}
use Rattle.relay_slots.specs.Slots.{slot_at}
use Rattle.relay_spool.specs.Pair.{HasBodies}
use Rattle.relay_spool.specs.Spool.{AtEachMoment}
use Rattle.relay_book.specs.declared.change.Change.{Change}
use Rattle.relay_records.specs.Staged.{CutsAll, GrowsAll, Row, Settles, StandsForOrWithAll, no_row}
use Rattle.relay_records.specs.declared.fault.NodeFault.{NodeFault}
use Rattle.relay_records.specs.declared.fault.NodeFault.TheVariants.{NoMemory, Stopped}
use Rattle.relay_records.specs.declared.noted.Noted.{Noted}
use Rattle.relay_loop.specs.declared.clients.Heard.{Heard}
use Rattle.relay_loop.specs.declared.group.Group.{Group}
use Rattle.relay_loop.specs.declared.group.Piece.{Piece}
use Rattle.relay_loop.specs.declared.hops.Answered.{Answered}
use Rattle.relay_loop.specs.declared.replying.ReplyPiece.{ReplyPiece}
use Rattle.relay_loop.specs.GroupPieces.{AnswersEach, AreOfOthers, IsUndone}
use Rattle.relay_loop.specs.GroupReplies.{AreToOthers, RepliesEach}
use Rattle.relay_loop.specs.Relay.{RelayState}

-- Below: a call at a time, of a relay whose node keeps these changes.
module _ {D : Type 0} (honest : Type 0) (words : DiskWords D) (changes : List Change) (at : ℕ) where
  -- The pieces, and after them the replies, have these results. The device wasn't called yet, and the row has these
  -- changes pending.
  pub record AnswersAll (pieces : List Piece) (replies : List ReplyPiece) (heard : List (Result Heard NodeFault))
      (answered : List (Result Answered NodeFault)) (old before : RelayState D) (row : Row) (pending : List Change)
      : Type 0 where
    pub staged : List Change
    pub between : RelayState D
    pub beside : Row
    pub pieces_each : AnswersEach honest words changes at pieces heard [] old no_row between beside staged
    pub replies_each : RepliesEach honest words changes at replies answered staged between beside before row pending
    pub undone : IsUndone old before

  -- All changes of the pieces and replies were added at once, and nothing else happened after the results; a stop at
  -- any time of the call leaves all of them or none.
  pub record ReadsAll (pieces : List Piece) (replies : List ReplyPiece) (old new : RelayState D) (group : Group)
      : Type 0 where
    pub pending : List Change
    pub before : RelayState D
    pub row : Row
    pub answers : AnswersAll pieces replies group.heard.items group.answered.items old before row pending
    pub settles : Settles honest words new.node.records changes pending group.notes.items
    pub grows : GrowsAll words before.node.records row new.node.records
    pub config : new.node.config ≡ before.node.config
    pub seats : new.node.seats ≡ before.node.seats
    pub attempts : new.node.attempts ≡ before.node.attempts
    pub clients : new.clients ≡ before.clients
    pub hops : new.hops ≡ before.hops
    pub stop : honest → AtEachMoment words old.node.records.spool.disk new.node.records.spool.disk
        (HasBodies (StandsForOrWithAll changes pending))

  -- A stop came while these changes were added: it leaves all of them or none.
  pub record CutsGroup (pieces : List Piece) (replies : List ReplyPiece) (old new : RelayState D) : Type 0 where
    pub heard : List (Result Heard NodeFault)
    pub answered : List (Result Answered NodeFault)
    pub pending : List Change
    pub before : RelayState D
    pub row : Row
    pub answers : AnswersAll pieces replies heard answered old before row pending
    pub notes : List Noted
    pub cuts : CutsAll honest words new.node.records changes pending notes
    pub stop : honest → AtEachMoment words old.node.records.spool.disk new.node.records.spool.disk
        (HasBodies (StandsForOrWithAll changes pending))

-- a call on these sessions and attempts changes no other, nor its connection, nor the configuration
pub record OnlyTheirs {D : Type 0} (old new : RelayState D) (pieces : List Piece) (replies : List ReplyPiece)
    : Type 0 where
  pub sessions : (session : ℕ) → AreOfOthers session pieces
      → (slot_at new.node.seats session ≡ slot_at old.node.seats session)
      × (slot_at new.clients session ≡ slot_at old.clients session)
  pub attempts : (attempt : ℕ) → AreToOthers attempt replies
      → (slot_at new.node.attempts attempt ≡ slot_at old.node.attempts attempt)
      × (slot_at new.hops attempt ≡ slot_at old.hops attempt)
  pub config : new.node.config ≡ old.node.config

-- the connections of the pieces are gone
abbrev pub AllAreGone : List (Option (List ℕ)) → List Piece → Type 0
AllAreGone clients pieces = AllByRecursion (λ piece. slot_at clients piece.session ≡ None) pieces

-- the connections of the replies are gone
abbrev pub HopsAreGone : List (Option (List ℕ)) → List ReplyPiece → Type 0
HopsAreGone hops replies = AllByRecursion (λ reply. slot_at hops reply.attempt ≡ None) replies

-- A call on these pieces and replies is refused. If memory ran out, nothing has changed. If the node was or is now
-- stopped, all their connections are gone, so that no octet that depends on a pending change goes out.
abbrev pub RefusesToReadAll
    : {D : Type 0} → List Piece → List ReplyPiece → RelayState D → RelayState D → NodeFault → Type 0
RefusesToReadAll pieces replies old new NoMemory = (new ≡ old) × (old.node.records.spool.live ≡ true)
RefusesToReadAll pieces replies old new Stopped =
    AllAreGone new.clients pieces × HopsAreGone new.hops replies × (new.node.records.spool.live ≡ false)
    × (old.node.records.spool.live ≡ false → new.node ≡ old.node)
RefusesToReadAll pieces replies old new other = ⊥
