-- Pieces that are answered, and after them replies: what is pending then.
use Rattle.std.proofs.Common.{ℕ, List, [], Result, ◌∙◌}
use Rattle.relay_disk.specs.Device.{DiskWords}
use Rattle.relay_book.specs.declared.change.Change.{Change}
use Rattle.relay_records.specs.Staged.{Awaits, Row, no_row}
use Rattle.relay_records.specs.declared.fault.NodeFault.{NodeFault}
use Rattle.relay_loop.specs.declared.clients.Heard.{Heard}
use Rattle.relay_loop.specs.declared.group.Piece.{Piece}
use Rattle.relay_loop.specs.declared.hops.Answered.{Answered}
use Rattle.relay_loop.specs.declared.replying.ReplyPiece.{ReplyPiece}
use Rattle.relay_loop.specs.GroupPieces.{IsUndone}
use Rattle.relay_loop.specs.Groups.{AnswersAll}
use Rattle.relay_loop.specs.Relay.{RelayState}
use Rattle.relay_loop.proofs.EachLemmas.{HasEach as HasPieces}
use Rattle.relay_loop.proofs.EachReplyLemmas.{HasEach as HasReplies}

module _ {D : Type 0} (honest : Type 0) (words : DiskWords D) (changes : List Change) (at : ℕ) (pieces : List Piece)
    (replies : List ReplyPiece) (heard : List (Result Heard NodeFault)) (answered : List (Result Answered NodeFault))
    (old : RelayState D) where
  -- all have their answers, and these changes are pending
  pub record ArePending (before : RelayState D) (row : Row) : Type 0 where
    pub pending : List Change
    pub answers : AnswersAll honest words changes at pieces replies heard answered old before row pending
    pub awaits : Awaits honest words before.node.records changes pending row

  pub are_pending : (between : RelayState D) (beside : Row) (before : RelayState D) (row : Row)
      → HasPieces honest words at old no_row pieces heard between beside
      → HasReplies honest words at between beside replies answered before row
      → IsUndone old between → IsUndone between before → Awaits honest words old.node.records changes [] no_row
      → ArePending before row
  are_pending between beside before row first second undone also awaits =
      let one = first changes [] awaits in
      let two = second changes one.0 one.2 in
      record {
        pending = two.0;
        answers = record {
          staged = one.0;
          between = between;
          beside = beside;
          pieces_each = one.1;
          replies_each = two.1;
          undone = record { spool = also.spool ∙ undone.spool; noted = also.noted ∙ undone.noted };
        };
        awaits = two.2;
      }
