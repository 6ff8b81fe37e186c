-- What relays promise for mail, whatever happens (RFC 5321, section 6.1).
use Rattle.std.specs.Prelude.{◌≡◌, ◌≢◌, ◌⊎◌, ◌<◌, ℕ, Bool, List, [], Some, slice_get}
use Rattle.relay_disk.specs.Device.{DiskWords}
use Rattle.relay_book.specs.declared.change.Accept.{Accept}
use Rattle.relay_book.specs.declared.change.Change.{Change}
use Rattle.relay_book.specs.declared.change.Verdict.{Verdict}
use Rattle.relay_book.specs.declared.change.Verdict.TheVariants.{Taken}
use Rattle.relay_book.specs.declared.change.Withdrawal.{Withdrawal}
use Rattle.relay_book.specs.declared.fate.Way.TheVariants.{ByEnd, ByWithdrawal}
use Rattle.relay_book.specs.Marks.{Added, Held, Transferred, message_at}
use Rattle.relay_world.specs.declared.attempt.Attempt.{Attempt}
use Rattle.relay_world.specs.declared.link.Link.{Link}
use Rattle.relay_world.specs.Bound.{IsBound, StandsAt}
use Rattle.relay_world.specs.Causes.{GaveVerdict, HadNoHop}
use Rattle.relay_world.specs.Chain.{KeepsChainsShort}
use Rattle.relay_world.specs.Children.{HasOneChild, IsAttempt, children_of}
use Rattle.relay_world.specs.Content.{PassesOnly}
use Rattle.relay_world.specs.Copies.{HasFewCopies}
use Rattle.relay_world.specs.Custody.{Acknowledged, KeepsCustody, LeftFor}
use Rattle.relay_world.specs.Delays.{DelaysOnce}
use Rattle.relay_world.specs.GivingUp.{IsAsked, Withdrawing}
use Rattle.relay_world.specs.Growth.{AttemptsGrow, HasGrown, ListsGrow}
use Rattle.relay_world.specs.HopLinks.{AreLinkedToHops}
use Rattle.relay_world.specs.Lines.{HasSources}
use Rattle.relay_world.specs.Once.{Happen, IsTriedOnce, asked_in}
use Rattle.relay_world.specs.Passing.{NoChildHolds, RepliesGave}
use Rattle.relay_world.specs.Transfers.{HasPassedOn}
use Rattle.relay_world.specs.World.{Host, World, link_at}
use Rattle.relay_report.specs.Report.{reporter_of}

-- What has become of a recipient: its node holds it; its next hop has accepted it; it has ended for a cause, with the
-- report that is owed, by a verdict from what an attempt for its message has read, or because it has no hop; or the
-- postmaster, who asked for just that, has withdrawn it, with the report that is owed.
pub data HasArrived {D : Type 0} (world : World D) (lists : List (List Change)) (asked : List Withdrawing) (node : ℕ)
    (host : Host D) (changes : List Change)
    (number place : ℕ) : Type 0 where
  IsHeld : Held changes number place → HasArrived world lists asked node host changes number place
  IsPassedOn : HasPassedOn world lists node host changes number place
      → HasArrived world lists asked node host changes number place
  HasEnded : (at : ℕ) (left : LeftFor (reporter_of host.config) changes at number place ByEnd)
      → GaveVerdict world lists node host changes at number place left.leaves.verdict
      ⊎ HadNoHop host changes number place left.leaves.verdict
      → HasArrived world lists asked node host changes number place
  IsWithdrawn : (at : ℕ) (withdrawal : Withdrawal)
      → LeftFor (reporter_of host.config) changes at number place (ByWithdrawal withdrawal)
      → IsAsked asked node number place withdrawal → HasArrived world lists asked node host changes number place

-- What has become of a recipient if the postmaster has asked for nothing: one of the first three.
pub data HasArrivedUnasked {D : Type 0} (world : World D) (lists : List (List Change)) (node : ℕ) (host : Host D)
    (changes : List Change)
    (number place : ℕ) : Type 0 where
  StillHeld : Held changes number place → HasArrivedUnasked world lists node host changes number place
  WasPassedOn : HasPassedOn world lists node host changes number place
      → HasArrivedUnasked world lists node host changes number place
  EndedFor : (at : ℕ) (left : LeftFor (reporter_of host.config) changes at number place ByEnd)
      → GaveVerdict world lists node host changes at number place left.leaves.verdict
      ⊎ HadNoHop host changes number place left.leaves.verdict
      → HasArrivedUnasked world lists node host changes number place

-- If the postmaster has asked for nothing, the promise is the one without withdrawals.
abbrev pub UnaskedIsKept : Type 0 → Type 0
UnaskedIsKept D =
    (world : World D) (lists : List (List Change)) (node : ℕ) (host : Host D) (changes : List Change)
    (number place : ℕ) → HasArrived world lists [] node host changes number place
    → HasArrivedUnasked world lists node host changes number place

-- The promise, in a given world.
pub record KeepsPromise {D : Type 0} (honest : Type 0) (words : DiskWords D) (world : World D)
    (lists : List (List Change)) (asked : List Withdrawing)
    : Type 0 where
  -- each recipient that a node acknowledged is held, accepted by its next hop, has ended, or was withdrawn
  pub recipients : (node : ℕ) (host : Host D) (changes : List Change) → StandsAt world lists node host changes
      → (number places place : ℕ) → Acknowledged world node number places → place < places
      → HasArrived world lists asked node host changes number place
  -- so is each place of each message that a node has added itself, as a report
  pub added : (node : ℕ) (host : Host D) (changes : List Change) → StandsAt world lists node host changes
      → (number place : ℕ) → Added changes number place → HasArrived world lists asked node host changes number place
  -- each transferred place was accepted by its next hop: a node of ours holds the place by one message with the values
  -- of the original
  pub transferred : (node : ℕ) (host : Host D) (changes : List Change) → StandsAt world lists node host changes
      → (number place : ℕ) → Transferred changes number place → HasPassedOn world lists node host changes number place
  -- a node has accepted at most one message from an attempt whose hop it is, with the values of the attempt's message
  pub children : (host : Host D) (changes : List Change) (link : Link) (attempt : Attempt)
      → IsAttempt world lists host changes link attempt
      → (next : ℕ) (at_next : Host D) (others : List Change) → StandsAt world lists next at_next others
      → at_next.config.host ≡ attempt.hop
      → (children_of world attempt ≡ []) ⊎ HasOneChild world host changes link attempt others
  -- that message holds no place that the node's replies didn't take
  pub refused : (host : Host D) (changes : List Change) (link : Link) (attempt : Attempt)
      → IsAttempt world lists host changes link attempt
      → (next : ℕ) (at_next : Host D) → slice_get world.hosts next ≡ Some at_next → at_next.config.host ≡ attempt.hop
      → (place : ℕ) (verdict : Verdict) → RepliesGave changes attempt place verdict
      → ((dsn : Bool) → verdict ≢ Taken dsn)
      → NoChildHolds world host changes link attempt place
  -- what a node holds is in its queue, and in every image that a stop may leave
  pub custody : (node : ℕ) (host : Host D) (changes : List Change) → StandsAt world lists node host changes
      → KeepsCustody honest words world node host changes
  -- there is at most one copy, and one more for each lost reply
  pub copies : (node message place : ℕ) → HasFewCopies world lists node message place
  -- as mail data only the received text is relayed, after a new time stamp line
  pub content : (number place : ℕ) (link : Link) (attempt : Attempt) (host : Host D) (changes : List Change)
      (accept : Accept) → link_at world.links number ≡ Some link → link.client ≡ Some place
      → slice_get world.attempts place ≡ Some attempt → StandsAt world lists attempt.node host changes
      → message_at changes attempt.message ≡ Some accept
      → PassesOnly world lists number link host attempt accept
  -- mail that goes from node to node is accepted at most 100 times
  pub chains : KeepsChainsShort world lists
  -- a place is tried once at a time, in an attempt whose link leads to its hop's node, or to outside
  pub once : IsTriedOnce world lists asked
  pub linked : AreLinkedToHops world
  -- each line of the ledger has its source
  pub sources : HasSources world lists
  -- a place is reported as delayed at most once
  pub delays : (node : ℕ) (host : Host D) (changes : List Change) → StandsAt world lists node host changes
      → DelaysOnce changes

-- After any number of events, on honest disks, relays that were bound, tried each place once, had the links that they
-- were meant to have, and lines with their sources, keep the promise with what the postmaster has asked for until then.
-- They still have all that they had recorded, reported, written and read, and the attempts that they had.
abbrev pub PromiseIsKept : {D : Type 0} → Type 0 → DiskWords D → Type 0
PromiseIsKept {D} honest words =
    honest → (count : ℕ) (old new : World D) (lists : List (List Change)) (asked : List Withdrawing)
    → IsBound honest words old lists → IsTriedOnce old lists asked → AreLinkedToHops old → HasSources old lists
    → (run : Happen honest words count old new)
    → (later : List (List Change)) × IsBound honest words new later
    × KeepsPromise honest words new later (asked_in honest words count old new run asked)
    × HasGrown old new × AttemptsGrow old new × ListsGrow lists later
