-- What a relay does with the octets of several clients, one after another, if their changes go to the spool together.
use Rattle.std.specs.Prelude.{◌≡◌, ◌≢◌, ◌⊎◌, ℕ, ◌+◌, ◌≤◌, ◌<◌, ◌^◌, List, [], ◌∷◌, ◌++◌, length, take, None, Result, Ok}
use Rattle.std.specs.Prelude.{Err}
use Rattle.std.specs.List.{AllByRecursion}
use Rattle.relay_disk.specs.Device.{DiskWords}
use Rattle.relay_slots.specs.Slots.{slot_at}
use Rattle.relay_spool.specs.Image.{room_of}
use Rattle.relay_server.specs.Dialogue.{Offered, Said}
use Rattle.relay_server.specs.Setup.{setup_for}
use Rattle.relay_book.specs.declared.change.Change.{Change}
use Rattle.relay_records.specs.Staged.{Awaits, Row}
use Rattle.relay_records.specs.declared.fault.NodeFault.{NodeFault}
use Rattle.relay_records.specs.declared.fault.NodeFault.TheVariants.{Unknown, Full}
use Rattle.relay_node.specs.Room.{ComesToOffer}
use Rattle.relay_node.specs.Staging.{HaveNoRoomAfter, IsStaged, MakesInto, RefusesToReceiveInto}
use Rattle.relay_loop.specs.declared.clients.Heard.{Heard}
use Rattle.relay_loop.specs.declared.group.Piece.{Piece}
use Rattle.relay_loop.specs.Clients.{GoesOn, IsUnknown, TalksTo}
use Rattle.relay_loop.specs.Outboxes.{unwritten_at}
use Rattle.relay_loop.specs.Relay.{OnlyClient, RelayState}

-- the row is full: it has 64 changes, or 4 MiB of records
abbrev pub IsLaden : Row → Type 0
IsLaden row = (64 ≤ length row.notes) ⊎ (2 ^ 22 ≤ room_of row.bodies)

-- the result for a piece of which nothing was used
abbrev pub unread : Heard
unread = record { used = 0; change = None; last = None }

-- none of these pieces belongs to this session
abbrev pub AreOfOthers : ℕ → List Piece → Type 0
AreOfOthers session pieces = AllByRecursion (λ piece. session ≢ piece.session) pieces

-- the device wasn't called yet
pub record IsUndone {D : Type 0} (old new : RelayState D) : Type 0 where
  pub spool : new.node.records.spool ≡ old.node.records.spool
  pub noted : new.node.records.noted ≡ old.node.records.noted

-- Below: a call at a time, of a relay whose node keeps these changes and has the pending ones staged in the row. One
-- piece stages at most one more change.
module _ {D : Type 0} (honest : Type 0) (words : DiskWords D) (changes : List Change) (at : ℕ) where
  -- A client was read, after this exchange, with nothing unwritten: the used octets of the piece follow the input. Each
  -- offer but the last found no room. If the last one was accepted, its change is pending too.
  pub record ReadsInto (pending : List Change) (session : ℕ) (peer : List ℕ) (said : Said) (written piece : List ℕ)
      (old : RelayState D) (row : Row) (new : RelayState D) (left : Row) (more : List Change) (heard : Heard)
      : Type 0 where
    pub later : Said
    pub input : later.input ≡ said.input ++ take heard.used piece
    pub refused : List Offered
    pub no_room : HaveNoRoomAfter old.node.config changes pending peer at old.node.records row refused
    pub makes : MakesInto old.node.config changes pending peer at said later refused heard.used old.node.records row
        new.node.records left more heard.change
    pub goes_on : GoesOn (changes ++ (pending ++ more)) new session peer later written heard.last

  -- A piece has a result: it was left unread if octets for its client were unwritten or the row was full. Otherwise it
  -- was used up, or up to a change or a close.
  pub record ReadsOne (pending : List Change) (piece : Piece) (old : RelayState D) (row : Row) (new : RelayState D)
      (left : Row) (more : List Change) (heard : Heard)
      : Type 0 where
    pub known : slot_at old.clients piece.session ≢ None
    pub within : heard.used ≤ length piece.octets.now
    pub some : heard.change ≢ None → 0 < heard.used
    pub whole : unwritten_at old.clients piece.session ≡ [] → (IsLaden row → ⊥) → heard.change ≡ None
        → heard.last ≡ None → heard.used ≡ length piece.octets.now
    pub staged : IsStaged (length changes + length pending + 1) heard.change more
    pub unread : (unwritten_at old.clients piece.session ≢ []) ⊎ IsLaden row
        → (heard ≡ unread) × (new ≡ old) × (left ≡ row)
    pub reads : unwritten_at old.clients piece.session ≡ [] → (IsLaden row → ⊥) → (peer : List ℕ) (said : Said)
        (written : List ℕ) → TalksTo (changes ++ pending) old piece.session peer said written
        → ReadsInto pending piece.session peer said written piece.octets.now old row new left more heard

  -- the piece was refused: its connection is gone, and the node is as its own call leaves it
  pub record RefusesOne (pending : List Change) (piece : Piece) (old : RelayState D) (row : Row) (new : RelayState D)
      (left : Row) (more : List Change) (fault : NodeFault)
      : Type 0 where
    pub none : more ≡ []
    pub gone : slot_at new.clients piece.session ≡ None
    pub leaves : RefusesToReceiveInto piece.session old.node new.node row left fault
    pub unknown : fault ≡ Unknown → IsUnknown old piece.session
    pub known : fault ≢ Unknown → slot_at old.clients piece.session ≢ None
    pub full : (peer : List ℕ) (said : Said) (written : List ℕ)
        → TalksTo (changes ++ pending) old piece.session peer said written → fault ≡ Full
        → ComesToOffer (setup_for old.node.config peer) said piece.octets.now

  abbrev pub AnswersBy
      : List Change → Piece → RelayState D → Row → RelayState D → Row → List Change → Result Heard NodeFault → Type 0
  AnswersBy pending piece old row new left more (Ok heard) = ReadsOne pending piece old row new left more heard
  AnswersBy pending piece old row new left more (Err fault) = RefusesOne pending piece old row new left more fault

  -- the piece has this result and has staged these changes, and nothing else happened
  pub record AnswersOne (pending : List Change) (piece : Piece) (old : RelayState D) (row : Row) (new : RelayState D)
      (left : Row) (more : List Change) (answer : Result Heard NodeFault)
      : Type 0 where
    pub by : AnswersBy pending piece old row new left more answer
    pub only : OnlyClient old new piece.session
    pub awaits : Awaits honest words new.node.records changes (pending ++ more) left

  -- The pieces have these results, one after another; the first list are the changes pending before them, the last
  -- those pending after them.
  abbrev pub AnswersEach
      : List Piece → List (Result Heard NodeFault) → List Change → RelayState D → Row → RelayState D → Row
      → List Change → Type 0
  AnswersEach [] answers pending old row new left all =
      (answers ≡ []) × (new ≡ old) × (left ≡ row) × (all ≡ pending)
  AnswersEach (piece ∷ pieces) answers pending old row new left all =
      (answer : Result Heard NodeFault) × (rest : List (Result Heard NodeFault)) × (answers ≡ answer ∷ rest)
      × (mid : RelayState D) × (between : Row) × (more : List Change)
      × AnswersOne pending piece old row mid between more answer
      × AnswersEach pieces rest (pending ++ more) mid between new left all
