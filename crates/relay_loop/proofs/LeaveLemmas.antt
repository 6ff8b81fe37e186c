-- What replies leave of the clients, and pieces of the next hops.
use Rattle.std.proofs.Common.{◌≡◌, ℕ, List, [], ◌∷◌, ◌++◌, Result, sym, ap, ◌∙◌, append_assoc, append-nil}
use Rattle.relay_disk.specs.Device.{DiskWords}
use Rattle.relay_book.specs.declared.change.Change.{Change}
use Rattle.relay_records.specs.Staged.{Row}
use Rattle.relay_records.specs.declared.fault.NodeFault.{NodeFault}
use Rattle.relay_loop.specs.declared.clients.Heard.{Heard}
use Rattle.relay_loop.specs.declared.group.Piece.{Piece}
use Rattle.relay_loop.specs.declared.hops.Answered.{Answered}
use Rattle.relay_loop.specs.declared.replying.ReplyPiece.{ReplyPiece}
use Rattle.relay_loop.specs.GroupPieces.{AnswersEach}
use Rattle.relay_loop.specs.GroupReplies.{RepliesEach}
use Rattle.relay_loop.specs.Relay.{RelayState}

module _ {D : Type 0} (honest : Type 0) (words : DiskWords D) (changes : List Change) (at : ℕ) where
  -- pieces leave the attempts and their connections, and what was pending has grown
  pub record PiecesLeave (pending : List Change) (old new : RelayState D) (all : List Change) : Type 0 where
    pub attempts : new.node.attempts ≡ old.node.attempts
    pub hops : new.hops ≡ old.hops
    pub config : new.node.config ≡ old.node.config
    pub added : List Change
    pub grows : all ≡ pending ++ added

  pub pieces_leave : (pieces : List Piece) (answers : List (Result Heard NodeFault)) (pending : List Change)
      (old : RelayState D) (row : Row) (new : RelayState D) (left : Row) (all : List Change)
      → AnswersEach honest words changes at pieces answers pending old row new left all
      → PiecesLeave pending old new all
  pieces_leave [] answers pending old row new left all (none, same, unmoved, is) = record {
    attempts = ap (λ (s : RelayState D). s.node.attempts) same;
    hops = ap (λ (s : RelayState D). s.hops) same;
    config = ap (λ (s : RelayState D). s.node.config) same;
    added = [];
    grows = is ∙ sym (append-nil pending);
  }
  pieces_leave (piece ∷ pieces) answers pending old row new left all
      (answer, rest, is, mid, between, more, one, each) =
      let so = pieces_leave pieces rest (pending ++ more) mid between new left all each in
      record {
        attempts = so.attempts ∙ one.only.attempts;
        hops = so.hops ∙ one.only.hops;
        config = so.config ∙ one.only.config;
        added = more ++ so.added;
        grows = so.grows ∙ append_assoc pending more so.added;
      }

  -- replies leave the sessions and their connections, and what was pending has grown
  pub record RepliesLeave (pending : List Change) (old new : RelayState D) (all : List Change) : Type 0 where
    pub seats : new.node.seats ≡ old.node.seats
    pub clients : new.clients ≡ old.clients
    pub config : new.node.config ≡ old.node.config
    pub added : List Change
    pub grows : all ≡ pending ++ added

  pub replies_leave : (replies : List ReplyPiece) (answers : List (Result Answered NodeFault)) (pending : List Change)
      (old : RelayState D) (row : Row) (new : RelayState D) (left : Row) (all : List Change)
      → RepliesEach honest words changes at replies answers pending old row new left all
      → RepliesLeave pending old new all
  replies_leave [] answers pending old row new left all (none, same, unmoved, is) = record {
    seats = ap (λ (s : RelayState D). s.node.seats) same;
    clients = ap (λ (s : RelayState D). s.clients) same;
    config = ap (λ (s : RelayState D). s.node.config) same;
    added = [];
    grows = is ∙ sym (append-nil pending);
  }
  replies_leave (reply ∷ replies) answers pending old row new left all
      (answer, rest, is, mid, between, more, one, each) =
      let so = replies_leave replies rest (pending ++ more) mid between new left all each in
      record {
        seats = so.seats ∙ one.only.seats;
        clients = so.clients ∙ one.only.clients;
        config = so.config ∙ one.only.config;
        added = more ++ so.added;
        grows = so.grows ∙ append_assoc pending more so.added;
      }
