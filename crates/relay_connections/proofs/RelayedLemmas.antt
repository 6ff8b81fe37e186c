-- The histories of attempts, which clients' calls leave alone but for those whose replies are heard.
use Rattle.std.proofs.Common.{◌≡◌, ◌≢◌, ◌⊎◌, inl, inr, ℕ, List, [], ◌∷◌, ◌++◌, None, Result, Ok, Err, refl, sym, ap, ◌∙◌, subst}
use Rattle.std.proofs.lemmas.Bool.{cases_eq}
use Rattle.relay_disk.specs.Device.{DiskWords}
use Rattle.relay_slots.specs.Slots.{slot_at}
use Rattle.relay_book.specs.declared.change.Change.{Change}
use Rattle.relay_records.specs.Staged.{Row, no_row}
use Rattle.relay_records.specs.declared.fault.NodeFault.{NodeFault}
use Rattle.relay_attempts.specs.Reply.{Told, told_more}
use Rattle.relay_loop.specs.declared.clients.Heard.{Heard}
use Rattle.relay_loop.specs.declared.group.Group.{Group}
use Rattle.relay_loop.specs.declared.group.Piece.{Piece}
use Rattle.relay_loop.specs.declared.hops.Answered.{Answered}
use Rattle.relay_loop.specs.declared.replying.ReplyPiece.{ReplyPiece}
use Rattle.relay_loop.specs.GroupHopLaws.{Becomes, used_of}
use Rattle.relay_loop.specs.GroupPieces.{AnswersEach}
use Rattle.relay_loop.specs.GroupReplies.{RepliesBy, RepliesEach}
use Rattle.relay_loop.specs.Groups.{ReadsAll}
use Rattle.relay_loop.specs.Laws.{StaysOrGrows}
use Rattle.relay_loop.specs.Relay.{RelayState}
use Rattle.relay_loop.proofs.Theorems.{groups_hand, hands_stay}
use Rattle.relay_connections.specs.Served.{HasRelayed, HaveRelayed}

-- attempts, their connections and the configuration are the same, by changes that are the same or one more
pub relayed_on : {D : Type 0} (changes later : List Change) (old new : RelayState D) → StaysOrGrows changes later → new.node.attempts ≡ old.node.attempts → new.hops ≡ old.hops → new.node.config ≡ old.node.config
    → HaveRelayed changes old → HaveRelayed later new
relayed_on changes later old new grown attempts hops config have = λ attempt stands.
    let had = have attempt (λ none. stands (ap (λ l. slot_at l attempt) hops ∙ none)) in
    record {
      told = had.told;
      written = had.written;
      hands = hands_stay changes later old new attempt had.told had.written grown (ap (λ l. slot_at l attempt) attempts) (ap (λ l. slot_at l attempt) hops) config had.hands;
    }

-- the same changes
pub relayed_still : {D : Type 0} (changes : List Change) (old new : RelayState D) → new.node.attempts ≡ old.node.attempts → new.hops ≡ old.hops → new.node.config ≡ old.node.config → HaveRelayed changes old → HaveRelayed changes new
relayed_still changes old new attempts hops config have = relayed_on changes changes old new (inl refl) attempts hops config have

module _ {D : Type 0} (honest : Type 0) (words : DiskWords D) (changes : List Change) (at : ℕ) where
  -- pieces of clients leave the connections of attempts
  pieces_hops : (pieces : List Piece) (answers : List (Result Heard NodeFault)) (pending : List Change) (old : RelayState D) (row : Row) (new : RelayState D) (left : Row) (all : List Change)
      → AnswersEach honest words changes at pieces answers pending old row new left all → new.hops ≡ old.hops
  pieces_hops [] answers pending old row new left all (none, same, unmoved, is) = ap (λ (s : RelayState D). s.hops) same
  pieces_hops (piece ∷ pieces) answers pending old row new left all (answer, rest, is, mid, between, more, one, each) =
      pieces_hops pieces rest (pending ++ more) mid between new left all each ∙ one.only.hops

  -- replies open no connection
  replies_open_none : (attempt : ℕ) (replies : List ReplyPiece) (answers : List (Result Answered NodeFault)) (pending : List Change) (old : RelayState D) (row : Row) (new : RelayState D) (left : Row) (all : List Change)
      → RepliesEach honest words changes at replies answers pending old row new left all → slot_at old.hops attempt ≡ None → slot_at new.hops attempt ≡ None
  replies_open_none attempt [] answers pending old row new left all (none, same, unmoved, is) closed = ap (λ (s : RelayState D). slot_at s.hops attempt) same ∙ closed
  replies_open_none attempt (reply ∷ replies) answers pending old row new left all (answer, rest, is, mid, between, more, one, each) closed =
      replies_open_none attempt replies rest (pending ++ more) mid between new left all each (by (cases_eq attempt reply.attempt))
    where
      refused : (answer : Result Answered NodeFault) → RepliesBy honest words changes at pending reply old row mid between more answer → slot_at old.hops reply.attempt ≡ None → slot_at mid.hops reply.attempt ≡ None
      refused (Ok answered) hears none = absurd (hears.known none)
      refused (Err fault) refuses none = refuses.gone

      by : (attempt ≡ reply.attempt) ⊎ (attempt ≡ reply.attempt → ⊥) → slot_at mid.hops attempt ≡ None
      by (inl same) =
          subst (λ (n : ℕ). slot_at mid.hops n ≡ None) (sym same)
          (refused answer one.by (subst (λ (n : ℕ). slot_at old.hops n ≡ None) same closed))
      by (inr apart) = one.only.hops attempt apart ∙ closed

  -- after a call on several pieces and replies each attempt that has a connection still has a history
  pub relayed_heard : (pieces : List Piece) (replies : List ReplyPiece) (old new : RelayState D) (group : Group) → (all : ReadsAll honest words changes at pieces replies old new group) → HaveRelayed changes old
      → HaveRelayed (changes ++ all.pending) new
  relayed_heard pieces replies old new group all have = λ attempt stands.
      let a = all.answers in
      let open_before : slot_at old.hops attempt ≢ None = λ none.
      stands (ap (λ l. slot_at l attempt) all.hops
      ∙ replies_open_none attempt replies group.answered.items a.staged a.between a.beside all.before all.row all.pending a.replies_each
      (ap (λ l. slot_at l attempt) (pieces_hops pieces group.heard.items [] old no_row a.between a.beside a.staged a.pieces_each) ∙ none)) in
      let had = have attempt open_before in
      by attempt had.told had.written stands (groups_hand honest words changes at pieces replies old new group attempt had.told had.written all had.hands)
    where
      by : (attempt : ℕ) (told : Told) (written : List ℕ) → slot_at new.hops attempt ≢ None → Becomes (changes ++ all.pending) at new attempt told written replies group.answered.items → HasRelayed (changes ++ all.pending) new attempt
      by attempt told written stands (inl still) = record { told = told_more told (used_of attempt replies group.answered.items) still.out; written = written; hands = still.hands }
      by attempt told written stands (inr (inl ended)) = absurd (stands ended.connection)
      by attempt told written stands (inr (inr refused)) = absurd (stands refused.connection)
