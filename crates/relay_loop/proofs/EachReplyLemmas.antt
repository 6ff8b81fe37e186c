-- Replies that are answered one after another, and a reply more.
use Rattle.std.proofs.Common.{◌≡◌, ◌≢◌, ◌⊎◌, ◌≤◌, ◌^◌, inl, ℕ, ◌+◌, true, List, [], ◌∷◌, ◌++◌, length, take, Result, refl, sym, ap, ◌∙◌, subst, length-append}
use Rattle.std.proofs.lemmas.List.{take_all}
use Rattle.relay_disk.specs.Device.{DiskWords}
use Rattle.relay_slots.specs.Slots.{slot_at}
use Rattle.relay_spool.specs.Image.{room_of}
use Rattle.relay_book.specs.declared.change.Change.{Change}
use Rattle.relay_records.specs.Staged.{Awaits, Row}
use Rattle.relay_records.specs.declared.fault.NodeFault.{NodeFault}
use Rattle.relay_loop.specs.declared.group.Piece.{Piece}
use Rattle.relay_loop.specs.declared.hops.Answered.{Answered}
use Rattle.relay_loop.specs.declared.replying.ReplyPiece.{ReplyPiece}
use Rattle.relay_loop.specs.GroupCalls.{ReadsReplies, ReadsReply}
use Rattle.relay_loop.specs.GroupPieces.{IsUndone}
use Rattle.relay_loop.specs.GroupReplies.{RepliesEach, RepliesOne}
use Rattle.relay_loop.specs.Groups.{OnlyTheirs}
use Rattle.relay_loop.specs.Relay.{OnlyHop, RelayState}
use Rattle.relay_loop.proofs.EachLemmas.{all_split, room_after}
use Rattle.relay_loop.proofs.GroupCallLemmas.{reads_more}
use Rattle.relay_loop.proofs.ReplyLemmas.{replies_more}

-- what a list of replies has after its end
abbrev pub no_reply : ReplyPiece
no_reply = record { attempt = 0; octets = record { ref_ptr = (0, 0); now = [] } }

-- a reply more leaves the others
only_more : {D : Type 0} (first mid new : RelayState D) (replies : List ReplyPiece) (reply : ReplyPiece)
    → OnlyTheirs first mid [] replies → OnlyHop mid new reply.attempt
    → OnlyTheirs first new [] (replies ++ reply ∷ [])
only_more first mid new replies reply before only = record {
  sessions = λ session all.
      let same = before.sessions session all in
      (ap (λ l. slot_at l session) only.seats ∙ same.0, ap (λ l. slot_at l session) only.clients ∙ same.1);
  attempts = λ attempt all.
      let parts = all_split (λ (r : ReplyPiece). attempt ≢ r.attempt) replies reply all in
      let same = before.attempts attempt parts.0 in
      (only.attempts attempt parts.1 ∙ same.0, only.hops attempt parts.1 ∙ same.1);
  config = only.config ∙ before.config;
}

-- what pieces have left, and then replies, the whole call has
pub only_both : {D : Type 0} (first mid new : RelayState D) (pieces : List Piece) (replies : List ReplyPiece)
    → OnlyTheirs first mid pieces [] → OnlyTheirs mid new [] replies → OnlyTheirs first new pieces replies
only_both first mid new pieces replies before after = record {
  sessions = λ session all.
      let one = before.sessions session all in
      let two = after.sessions session tt in
      (two.0 ∙ one.0, two.1 ∙ one.1);
  attempts = λ attempt all.
      let one = before.attempts attempt tt in
      let two = after.attempts attempt all in
      (two.0 ∙ one.0, two.1 ∙ one.1);
  config = after.config ∙ before.config;
}

-- so many replies are answered, from this relay and row to those
module _ {D : Type 0} (honest : Type 0) (words : DiskWords D) (at : ℕ) (first : RelayState D) (row : Row) where
  -- what was pending grows
  abbrev pub HasEach : List ReplyPiece → List (Result Answered NodeFault) → RelayState D → Row → Type 0
  HasEach replies answers mid between =
      (changes pending : List Change) → Awaits honest words first.node.records changes pending row
      → (all : List Change) × RepliesEach honest words changes at replies answers pending first row mid between all
      × Awaits honest words mid.node.records changes all between

  pub record Goes (replies : List ReplyPiece) (answers : List (Result Answered NodeFault)) (mid : RelayState D)
      (between : Row) : Type 0 where
    pub live : mid.node.records.spool.live ≡ true
    pub undone : IsUndone first mid
    pub room : (between ≡ row) ⊎ (mid.node.records.spool.size + room_of between.bodies ≤ 2 ^ 40)
    pub only : OnlyTheirs first mid [] replies
    pub lengths : length answers ≡ length replies
    pub each : HasEach replies answers mid between
    pub reads : ReadsReplies honest words at replies answers first row mid between

  pub goes_nowhere : first.node.records.spool.live ≡ true → (answers : List (Result Answered NodeFault))
      → answers ≡ [] → Goes [] answers first row
  goes_nowhere live answers none = record {
    live = live;
    undone = record { spool = refl; noted = refl };
    room = inl refl;
    only = record { sessions = λ session all. (refl, refl); attempts = λ attempt all. (refl, refl); config = refl };
    lengths = ap length none;
    each = λ changes pending awaits. (pending, (none, refl, refl, refl), awaits);
    reads = (none, refl, refl);
  }

  -- all are
  pub all_replies : (replies : List ReplyPiece) (index : ℕ) (answers : List (Result Answered NodeFault))
      (mid : RelayState D) (between : Row) → length replies ≤ index → Goes (take index replies) answers mid between
      → Goes replies answers mid between
  all_replies replies index answers mid between long goes =
      subst (λ (l : List ReplyPiece). Goes l answers mid between) (take_all index replies long) goes

  pub goes_on : (mid new : RelayState D) (between left : Row) (reply : ReplyPiece) (answer : Result Answered NodeFault)
      → ((changes pending : List Change) → Awaits honest words mid.node.records changes pending between
      → (more : List Change) × RepliesOne honest words changes at pending reply mid between new left more answer)
      → ReadsReply honest words at mid between new left reply answer
      → OnlyHop mid new reply.attempt → IsUndone mid new
      → (left ≡ between) ⊎ (new.node.records.spool.size + room_of left.bodies ≤ 2 ^ 40)
      → (replies : List ReplyPiece) (answers : List (Result Answered NodeFault)) → Goes replies answers mid between
      → Goes (replies ++ reply ∷ []) (answers ++ answer ∷ []) new left
  goes_on mid new between left reply answer answers_one reads_one only undone room replies answers so = record {
    live = ap (λ s. s.live) undone.spool ∙ so.live;
    undone = record {
      spool = undone.spool ∙ so.undone.spool;
      noted = undone.noted ∙ so.undone.noted;
    };
    room = room_after mid new row between left undone so.room room;
    only = only_more first mid new replies reply so.only only;
    lengths =
        length-append answers (answer ∷ []) ∙ ap (λ n. n + 1) so.lengths ∙ sym (length-append replies (reply ∷ []));
    each = λ changes pending awaits.
        let before = so.each changes pending awaits in
        let one = answers_one changes before.0 before.2 in (
          before.0 ++ one.0,
          replies_more honest words changes at replies answers pending before.0 one.0 first mid new row between left
              reply answer before.1 one.1,
          one.1.awaits,
        );
    reads = reads_more honest words at replies answers first mid new row between left reply answer so.reads reads_one;
  }
