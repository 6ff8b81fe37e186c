-- What a relay does with the octets of several next hops, one after another, if the outcomes of their attempts go to
-- the spool together.
use Rattle.std.specs.Prelude.{◌≡◌, ◌≢◌, ◌⊎◌, ℕ, ◌+◌, ◌≤◌, false, List, [], ◌∷◌, ◌++◌, length, take, Option, None, Some}
use Rattle.std.specs.Prelude.{Result, Ok, Err}
use Rattle.std.specs.List.{AllByRecursion}
use Rattle.relay_disk.specs.Device.{DiskWords}
use Rattle.relay_slots.specs.Slots.{slot_at}
use Rattle.relay_book.specs.declared.change.Change.{Change}
use Rattle.relay_book.specs.declared.change.Change.TheVariants as change
use Rattle.relay_book.specs.declared.change.Outcome.{Outcome}
use Rattle.relay_book.specs.declared.change.Verdict.{Verdict}
use Rattle.relay_records.specs.Staged.{Awaits, Row}
use Rattle.relay_records.specs.declared.fault.NodeFault.{NodeFault}
use Rattle.relay_records.specs.declared.fault.NodeFault.TheVariants.{Unknown, Full}
use Rattle.relay_attempts.specs.AddedOutcome.{reported_as}
use Rattle.relay_attempts.specs.Reply.{IsItsCourse, Told, outcome_at, told_more}
use Rattle.relay_attempts.specs.Staging.{HasNoRoomAtEndAfter, MakesAfter, StagesOutcome}
use Rattle.relay_node.specs.StagedReplies.{RefusesToReplyInto}
use Rattle.relay_loop.specs.declared.hops.Answered.{Answered}
use Rattle.relay_loop.specs.declared.replying.ReplyPiece.{ReplyPiece}
use Rattle.relay_loop.specs.GroupPieces.{IsLaden}
use Rattle.relay_loop.specs.Hops.{HandsTo, IsUnknown}
use Rattle.relay_loop.specs.Outboxes.{unwritten_at}
use Rattle.relay_loop.specs.Relay.{OnlyHop, RelayState}
use Rattle.relay_report.specs.Report.{reporter_of}

-- the result for a reply of which nothing was used
abbrev pub unheard : Answered
unheard = record { used = 0; change = None; last = None }

-- none of these replies belongs to this attempt
abbrev pub AreToOthers : ℕ → List ReplyPiece → Type 0
AreToOthers attempt replies = AllByRecursion (λ reply. attempt ≢ reply.attempt) replies

-- the changes that a reply stages: none, or one outcome, whose number is the next
abbrev pub IsEnding : ℕ → Option ℕ → List Change → Type 0
IsEnding next None more = more ≡ []
IsEnding next (Some number) more =
    (outcome : Outcome) × (number ≡ next) × (more ≡ change.Outcome outcome ∷ [])

-- Below: a call at a time, of a relay whose node keeps these changes and has the pending ones staged in the row. One
-- reply stages at most one more change.
module _ {D : Type 0} (honest : Type 0) (words : DiskWords D) (changes : List Change) (at : ℕ) where
  -- Below: a reply to an attempt with this history and these octets written, with nothing unwritten.
  module _ (pending : List Change) (attempt : ℕ) (told : Told) (written piece : List ℕ) (old : RelayState D) (row : Row)
      (new : RelayState D) (left : Row) (more : List Change) (answered : Answered) where
    -- the attempt goes on after the whole piece; records and row are unchanged
    pub record HandsOnAfter : Type 0 where
      pub used : answered.used ≡ length piece
      pub same : new.node.records ≡ old.node.records
      pub row_is : left ≡ row
      pub last : answered.last ≡ None
      pub out : List ℕ
      pub hands : HandsTo (changes ++ pending) new attempt (told_more told (take answered.used piece) out) written

    -- The attempt has ended, with these last octets: its one outcome, with the report that is owed, is pending as the
    -- change of this number. The attempt and its connection are gone.
    pub record HandsLastAfter (number : ℕ) : Type 0 where
      pub last : List ℕ
      pub last_is : answered.last ≡ Some last
      pub verdicts : List Verdict
      pub course : IsItsCourse old.node.config.host (told_more told (take answered.used piece) last) false verdicts
      pub output : told.output ++ last ≡ written ++ last
      pub stages : StagesOutcome honest words (reporter_of old.node.config) changes pending row (outcome_at at told
          verdicts) answered.used new.node.records left number
      pub more_is : more ≡ reported_as (outcome_at at told verdicts) stages.report ∷ []
      pub gone : slot_at new.node.attempts attempt ≡ None
      pub connection : slot_at new.hops attempt ≡ None

    abbrev pub HandsBy : Option ℕ → Type 0
    HandsBy None = HandsOnAfter
    HandsBy (Some number) = HandsLastAfter number

  -- A reply has a result: it was left unread if octets for its next hop were unwritten or the row was full. Otherwise
  -- it was used up, or up to the end of the attempt, which is gone then.
  pub record HearsReply (pending : List Change) (reply : ReplyPiece) (old : RelayState D) (row : Row)
      (new : RelayState D) (left : Row) (more : List Change) (answered : Answered)
      : Type 0 where
    pub known : slot_at old.hops reply.attempt ≢ None
    pub within : answered.used ≤ length reply.octets.now
    pub whole : unwritten_at old.hops reply.attempt ≡ [] → (IsLaden row → ⊥) → answered.change ≡ None
        → answered.used ≡ length reply.octets.now
    pub gone : answered.change ≢ None → slot_at new.node.attempts reply.attempt ≡ None
    pub staged : IsEnding (length changes + length pending + 1) answered.change more
    pub unread : (unwritten_at old.hops reply.attempt ≢ []) ⊎ IsLaden row
        → (answered ≡ unheard) × (new ≡ old) × (left ≡ row)
    pub makes : unwritten_at old.hops reply.attempt ≡ [] → (IsLaden row → ⊥)
        → MakesAfter (reporter_of old.node.config) at reply.attempt old.node.attempts new.node.attempts answered.used
        old.node.records new.node.records row left answered.change
    pub hands : unwritten_at old.hops reply.attempt ≡ [] → (IsLaden row → ⊥) → (told : Told) (written : List ℕ)
        → HandsTo (changes ++ pending) old reply.attempt told written
        → HandsBy pending reply.attempt told written reply.octets.now old row new left more answered answered.change

  -- the reply was refused: its connection is gone, and the node is as its own call leaves it
  pub record RefusesReply (pending : List Change) (reply : ReplyPiece) (old : RelayState D) (row : Row)
      (new : RelayState D) (left : Row) (more : List Change) (fault : NodeFault)
      : Type 0 where
    pub none : more ≡ []
    pub gone : slot_at new.hops reply.attempt ≡ None
    pub leaves : RefusesToReplyInto reply.attempt old.node new.node row left fault
    pub unknown : fault ≡ Unknown → IsUnknown old reply.attempt
    pub known : fault ≢ Unknown → slot_at old.hops reply.attempt ≢ None
    pub full : (told : Told) (written : List ℕ) → HandsTo (changes ++ pending) old reply.attempt told written
        → fault ≡ Full
        → HasNoRoomAtEndAfter (reporter_of old.node.config) at told reply.octets.now old.node.records row

  abbrev pub RepliesBy
      : List Change → ReplyPiece → RelayState D → Row → RelayState D → Row → List Change → Result Answered NodeFault
      → Type 0
  RepliesBy pending reply old row new left more (Ok answered) = HearsReply pending reply old row new left more answered
  RepliesBy pending reply old row new left more (Err fault) = RefusesReply pending reply old row new left more fault

  -- the reply has this result and has staged these changes, and nothing else happened
  pub record RepliesOne (pending : List Change) (reply : ReplyPiece) (old : RelayState D) (row : Row)
      (new : RelayState D) (left : Row) (more : List Change) (answer : Result Answered NodeFault)
      : Type 0 where
    pub by : RepliesBy pending reply old row new left more answer
    pub only : OnlyHop old new reply.attempt
    pub awaits : Awaits honest words new.node.records changes (pending ++ more) left

  -- The replies have these results, one after another; the first list are the changes pending before them, the last
  -- those pending after them.
  abbrev pub RepliesEach
      : List ReplyPiece → List (Result Answered NodeFault) → List Change → RelayState D → Row → RelayState D → Row
      → List Change → Type 0
  RepliesEach [] answers pending old row new left all =
      (answers ≡ []) × (new ≡ old) × (left ≡ row) × (all ≡ pending)
  RepliesEach (reply ∷ replies) answers pending old row new left all =
      (answer : Result Answered NodeFault) × (rest : List (Result Answered NodeFault)) × (answers ≡ answer ∷ rest)
      × (mid : RelayState D) × (between : Row) × (more : List Change)
      × RepliesOne pending reply old row mid between more answer
      × RepliesEach replies rest (pending ++ more) mid between new left all
