-- What a node has recorded of a place is what its next hop has replied and, if that is a node of ours, what it has done
-- (RFC 5321, sections 4.2.5 and 6.1).
use Rattle.std.specs.Prelude.{◌≡◌, ◌≢◌, ◌⊎◌, ℕ, Bool, List, [], Some, slice_get}
use Rattle.std.specs.List.{Contains}
use Rattle.relay_disk.specs.Device.{DiskWords}
use Rattle.relay_lines.specs.Reply.{Reply}
use Rattle.relay_book.specs.declared.change.Change.{Change}
use Rattle.relay_book.specs.declared.change.Change.TheVariants as change
use Rattle.relay_book.specs.declared.change.Outcome.{Outcome}
use Rattle.relay_book.specs.declared.change.Verdict.{Verdict}
use Rattle.relay_book.specs.declared.change.Verdict.TheVariants.{Taken}
use Rattle.relay_book.specs.Marks.{change_at}
use Rattle.relay_course.specs.declared.awaited.Awaited.TheVariants as awaited
use Rattle.relay_course.specs.declared.reply_kind.ReplyKind.TheVariants.{Completion}
use Rattle.relay_course.specs.VerdictTable.{kind_of}
use Rattle.relay_course.specs.Progress.{Answered, answer_of}
use Rattle.relay_world.specs.declared.attempt.Attempt.{Attempt}
use Rattle.relay_world.specs.declared.attempt.Fate.TheVariants.{Replied}
use Rattle.relay_world.specs.declared.link.Link.{Link}
use Rattle.relay_world.specs.declared.link.ServerEnd.{ServerEnd}
use Rattle.relay_world.specs.Bound.{IsBound}
use Rattle.relay_world.specs.Children.{AreChildPlaces, HasAnswers, HasOneChild, IsAttempt, children_of}
use Rattle.relay_world.specs.World.{Host, World}

-- the change of this number is an outcome that gives the place this verdict
pub record Rules (changes : List Change) (number place : ℕ) (verdict : Verdict) : Type 0 where
  pub outcome : Outcome
  pub found : change_at changes number ≡ Some (change.Outcome outcome)
  pub ruling : Contains outcome.rulings (record { place = place; verdict = verdict })

-- replies of its hop ended the attempt, and its outcome gives the place this verdict
pub record RepliesGave (changes : List Change) (attempt : Attempt) (place : ℕ) (verdict : Verdict) : Type 0 where
  pub number : ℕ
  pub replied : attempt.fate ≡ Replied number
  pub rules : Rules changes number place verdict

-- both the RCPT of the place and the mail data got a 2yz reply
pub record AcceptsPlace (answered : List Answered) (place : ℕ) : Type 0 where
  pub rcpt : Reply
  pub asked : Contains answered (answer_of (awaited.Rcpt place) rcpt)
  pub accepted : kind_of rcpt.code ≡ Completion
  pub content : Reply
  pub sent : Contains answered (answer_of awaited.Content content)
  pub taken : kind_of content.code ≡ Completion

-- The next hop has accepted the place, by what the attempt has read. If a node serves its link, that node has accepted
-- one message on it, which holds the child places, and the place is one of them.
pub record IsAcceptedByHop {D : Type 0} (world : World D) (lists : List (List Change)) (host : Host D)
    (changes : List Change)
    (link : Link) (attempt : Attempt) (place : ℕ) : Type 0 where
  pub answered : List Answered
  pub reads : HasAnswers host changes link attempt answered
  pub accepts : AcceptsPlace answered place
  pub child : (end : ServerEnd) (others : List Change) → link.server ≡ Some end → slice_get lists end.node ≡ Some others
      → (one : HasOneChild world host changes link attempt others) × Contains one.places place

-- A place with the verdict Taken was accepted by its next hop.
abbrev pub TakenIsAccepted : {D : Type 0} → Type 0 → DiskWords D → Type 0
TakenIsAccepted {D} honest words =
    (world : World D) (lists : List (List Change)) → IsBound honest words world lists
    → (host : Host D) (changes : List Change) (link : Link) (attempt : Attempt)
    → IsAttempt world lists host changes link attempt
    → (place : ℕ) (dsn : Bool) → RepliesGave changes attempt place (Taken dsn)
    → IsAcceptedByHop world lists host changes link attempt place

-- no child of the attempt holds the place: there is no child, or the place isn't a child place
abbrev pub NoChildHolds : {D : Type 0} → World D → Host D → List Change → Link → Attempt → ℕ → Type 0
NoChildHolds world host changes link attempt place =
    (children_of world attempt ≡ [])
    ⊎ ((places : List ℕ) → AreChildPlaces host changes link attempt places → Contains places place → ⊥)

-- If replies of a node of ours gave a place another verdict than Taken, no child holds the place.
abbrev pub OthersAreNotHeld : {D : Type 0} → Type 0 → DiskWords D → Type 0
OthersAreNotHeld {D} honest words =
    (world : World D) (lists : List (List Change)) → IsBound honest words world lists
    → (host : Host D) (changes : List Change) (link : Link) (attempt : Attempt)
    → IsAttempt world lists host changes link attempt
    → (end : ServerEnd) → link.server ≡ Some end
    → (place : ℕ) (verdict : Verdict) → RepliesGave changes attempt place verdict → ((dsn : Bool) → verdict ≢ Taken dsn)
    → NoChildHolds world host changes link attempt place

-- An attempt on a link that a node serves has at most one child, whatever its state; the child holds the child places.
abbrev pub AtMostOneChild : {D : Type 0} → Type 0 → DiskWords D → Type 0
AtMostOneChild {D} honest words =
    (world : World D) (lists : List (List Change)) → IsBound honest words world lists
    → (host : Host D) (changes : List Change) (link : Link) (attempt : Attempt)
    → IsAttempt world lists host changes link attempt
    → (end : ServerEnd) (others : List Change) → link.server ≡ Some end → slice_get lists end.node ≡ Some others
    → (children_of world attempt ≡ []) ⊎ HasOneChild world host changes link attempt others
