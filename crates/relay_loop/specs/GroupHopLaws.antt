-- The state of an attempt after a call on several pieces and replies.
use Rattle.std.specs.Prelude.{◌≡◌, ◌⊎◌, ℕ, ◌+◌, ◌==◌, false, List, [], ◌∷◌, ◌++◌, length, take, None, Some, Result, Ok}
use Rattle.std.specs.Prelude.{Err, if◌then◌else◌}
use Rattle.std.specs.Result.{IsErr}
use Rattle.relay_disk.specs.Device.{DiskWords}
use Rattle.relay_slots.specs.Slots.{slot_at}
use Rattle.relay_book.specs.declared.change.Change.{Change}
use Rattle.relay_book.specs.declared.change.Verdict.{Verdict}
use Rattle.relay_records.specs.declared.fault.NodeFault.{NodeFault}
use Rattle.relay_report.specs.Report.{Reported, reporter_of}
use Rattle.relay_attempts.specs.AddedOutcome.{reported_as}
use Rattle.relay_attempts.specs.Reply.{IsItsCourse, Told, outcome_at, told_more}
use Rattle.relay_loop.specs.declared.group.Group.{Group}
use Rattle.relay_loop.specs.declared.group.Piece.{Piece}
use Rattle.relay_loop.specs.declared.hops.Answered.{Answered}
use Rattle.relay_loop.specs.declared.replying.ReplyPiece.{ReplyPiece}
use Rattle.relay_loop.specs.GroupReplies.{AreToOthers}
use Rattle.relay_loop.specs.Groups.{OnlyTheirs, ReadsAll}
use Rattle.relay_loop.specs.Hops.{HandsTo}
use Rattle.relay_loop.specs.Relay.{RelayState}

-- the octets used of a reply with this result
abbrev pub used_by : ReplyPiece → Result Answered NodeFault → List ℕ
used_by reply (Ok answered) = take answered.used reply.octets.now
used_by reply (Err fault) = []

-- the octets used of the replies to an attempt
abbrev pub used_of : ℕ → List ReplyPiece → List (Result Answered NodeFault) → List ℕ
used_of attempt [] answers = []
used_of attempt (reply ∷ replies) [] = []
used_of attempt (reply ∷ replies) (answer ∷ answers) =
    (if reply.attempt == attempt then used_by reply answer else []) ++ used_of attempt replies answers

-- the result hands out these last octets, and names the change of this number
abbrev pub HandsOut : List ℕ → ℕ → Result Answered NodeFault → Type 0
HandsOut last number (Ok answered) = (answered.last ≡ Some last) × (answered.change ≡ Some number)
HandsOut last number (Err fault) = ⊥

-- the result of a reply to this attempt does so
abbrev pub IsHandedOut : List ℕ → ℕ → ℕ → List ReplyPiece → List (Result Answered NodeFault) → Type 0
IsHandedOut last number attempt [] answers = ⊥
IsHandedOut last number attempt (reply ∷ replies) [] = ⊥
IsHandedOut last number attempt (reply ∷ replies) (answer ∷ answers) =
    ((reply.attempt ≡ attempt) × HandsOut last number answer) ⊎ IsHandedOut last number attempt replies answers

-- the result of a reply to this attempt is a fault
abbrev pub IsRefused : ℕ → List ReplyPiece → List (Result Answered NodeFault) → Type 0
IsRefused attempt [] answers = ⊥
IsRefused attempt (reply ∷ replies) [] = ⊥
IsRefused attempt (reply ∷ replies) (answer ∷ answers) =
    ((reply.attempt ≡ attempt) × IsErr answer) ⊎ IsRefused attempt replies answers

-- Below: an attempt with this history and these octets written, after replies with these results, by this list of
-- changes.
module _ {D : Type 0} (list : List Change) (at : ℕ) (new : RelayState D) (attempt : ℕ) (told : Told)
    (written : List ℕ) (replies : List ReplyPiece) (answers : List (Result Answered NodeFault)) where
  -- the attempt goes on, and the used octets of its replies follow its input
  pub record IsHandedTo : Type 0 where
    pub out : List ℕ
    pub hands : HandsTo list new attempt (told_more told (used_of attempt replies answers) out) written

  -- The attempt has ended, and its last octets are handed out. Its one outcome, with the report that is owed, is the
  -- change of this number in the list.
  pub record HasEndedIn : Type 0 where
    pub out : List ℕ
    pub verdicts : List Verdict
    pub course : IsItsCourse new.node.config.host (told_more told (used_of attempt replies answers) out) false verdicts
    pub last : List ℕ
    pub output : told.output ++ out ≡ written ++ last
    pub front : List Change
    pub report : List ℕ
    pub reported : Reported (reporter_of new.node.config) front (reported_as (outcome_at at told verdicts) report)
    pub rest : List Change
    pub list_is : list ≡ front ++ reported_as (outcome_at at told verdicts) report ∷ rest
    pub gone : slot_at new.node.attempts attempt ≡ None
    pub connection : slot_at new.hops attempt ≡ None
    pub handed : IsHandedOut last (length front + 1) attempt replies answers

  -- a reply to it was refused, and the attempt is gone with its connection
  pub record WasRefusedIn : Type 0 where
    pub gone : slot_at new.node.attempts attempt ≡ None
    pub connection : slot_at new.hops attempt ≡ None
    pub refused : IsRefused attempt replies answers

  abbrev pub Becomes : Type 0
  Becomes = IsHandedTo ⊎ HasEndedIn ⊎ WasRefusedIn

-- Each attempt becomes one of these, with or without a reply in the call.
abbrev pub GroupsHand : {D : Type 0} → Type 0 → DiskWords D → Type 0
GroupsHand {D = D} honest words =
    (changes : List Change) (at : ℕ) (pieces : List Piece) (replies : List ReplyPiece) (old new : RelayState D)
    (group : Group) (attempt : ℕ) (told : Told) (written : List ℕ)
    → (all : ReadsAll honest words changes at pieces replies old new group) → HandsTo changes old attempt told written
    → Becomes (changes ++ all.pending) at new attempt told written replies group.answered.items

-- An attempt without a reply in the call goes on as before, by the list with all pending changes.
abbrev pub GroupsLeaveHops : {D : Type 0} → Type 0 → DiskWords D → Type 0
GroupsLeaveHops {D = D} honest words =
    (changes : List Change) (at : ℕ) (pieces : List Piece) (replies : List ReplyPiece) (old new : RelayState D)
    (group : Group) (attempt : ℕ) (told : Told) (written : List ℕ)
    → (all : ReadsAll honest words changes at pieces replies old new group) → OnlyTheirs old new pieces replies
    → AreToOthers attempt replies → HandsTo changes old attempt told written
    → HandsTo (changes ++ all.pending) new attempt told written
