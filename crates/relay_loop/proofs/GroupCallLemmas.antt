-- Pieces and replies that a relay was given one after another by calls of its node, and one more.
use Rattle.std.proofs.Common.{ℕ, List, [], ◌∷◌, ◌++◌, Result, refl, ap, subst}
use Rattle.relay_disk.specs.Device.{DiskWords}
use Rattle.relay_records.specs.Staged.{Row}
use Rattle.relay_records.specs.declared.fault.NodeFault.{NodeFault}
use Rattle.relay_loop.specs.declared.clients.Heard.{Heard}
use Rattle.relay_loop.specs.declared.group.Piece.{Piece}
use Rattle.relay_loop.specs.declared.hops.Answered.{Answered}
use Rattle.relay_loop.specs.declared.replying.ReplyPiece.{ReplyPiece}
use Rattle.relay_loop.specs.GroupCalls.{HearsPiece, HearsPieces, ReadsReplies, ReadsReply}
use Rattle.relay_loop.specs.Relay.{RelayState}

module _ {D : Type 0} (honest : Type 0) (words : DiskWords D) (at : ℕ) where
  -- a piece more was given
  pub hears_more : (pieces : List Piece) (results : List (Result Heard NodeFault)) (old mid new : RelayState D)
      (row between left : Row) (piece : Piece) (result : Result Heard NodeFault)
      → HearsPieces honest words at pieces results old row mid between
      → HearsPiece honest words at mid between new left piece result
      → HearsPieces honest words at (pieces ++ piece ∷ []) (results ++ result ∷ []) old row new left
  hears_more [] results old mid new row between left piece result (none, same, unmoved) one = (
    result,
    [],
    ap (λ (l : List (Result Heard NodeFault)). l ++ result ∷ []) none,
    new,
    left,
    subst (λ (r : Row). HearsPiece honest words at old r new left piece result) unmoved
        (subst (λ (s : RelayState D). HearsPiece honest words at s between new left piece result) same one),
    (refl, refl, refl),
  )
  hears_more (first ∷ pieces) results old mid new row between left piece result
      (its, rest, is, next, beside, by, each) one = (
        its,
        rest ++ result ∷ [],
        ap (λ (l : List (Result Heard NodeFault)). l ++ result ∷ []) is,
        next,
        beside,
        by,
        hears_more pieces rest next mid new beside between left piece result each one,
      )

  -- a reply more was given
  pub reads_more : (replies : List ReplyPiece) (results : List (Result Answered NodeFault)) (old mid new : RelayState D)
      (row between left : Row) (reply : ReplyPiece) (result : Result Answered NodeFault)
      → ReadsReplies honest words at replies results old row mid between
      → ReadsReply honest words at mid between new left reply result
      → ReadsReplies honest words at (replies ++ reply ∷ []) (results ++ result ∷ []) old row new left
  reads_more [] results old mid new row between left reply result (none, same, unmoved) one = (
    result,
    [],
    ap (λ (l : List (Result Answered NodeFault)). l ++ result ∷ []) none,
    new,
    left,
    subst (λ (r : Row). ReadsReply honest words at old r new left reply result) unmoved
        (subst (λ (s : RelayState D). ReadsReply honest words at s between new left reply result) same one),
    (refl, refl, refl),
  )
  reads_more (first ∷ replies) results old mid new row between left reply result
      (its, rest, is, next, beside, by, each) one = (
        its,
        rest ++ result ∷ [],
        ap (λ (l : List (Result Answered NodeFault)). l ++ result ∷ []) is,
        next,
        beside,
        by,
        reads_more replies rest next mid new beside between left reply result each one,
      )
