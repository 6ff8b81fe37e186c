-- A place that left a node's queue by a transfer (RFC 5321, section 6.1) was accepted by its next hop.
use Rattle.std.specs.Prelude.{◌≡◌, ℕ, List}
use Rattle.std.specs.List.{Contains}
use Rattle.relay_disk.specs.Device.{DiskWords}
use Rattle.relay_book.specs.declared.change.Change.{Change}
use Rattle.relay_book.specs.Marks.{Transferred}
use Rattle.relay_course.specs.Progress.{Answered}
use Rattle.relay_world.specs.declared.attempt.Attempt.{Attempt}
use Rattle.relay_world.specs.declared.link.Link.{Link}
use Rattle.relay_world.specs.Bound.{IsBound, StandsAt}
use Rattle.relay_world.specs.Children.{HasAnswers, HasOneChild, IsAttempt}
use Rattle.relay_world.specs.HopLinks.{AreLinkedToHops, LeadsTo}
use Rattle.relay_world.specs.GivingUp.{Withdrawing}
use Rattle.relay_world.specs.Once.{GoesToHop, IsTriedOnce}
use Rattle.relay_world.specs.Passing.{AcceptsPlace}
use Rattle.relay_world.specs.World.{Host, World}

-- the attempt's link leads to this node, which has accepted one message on it, and that message holds the place
pub record IsHeldNext {D : Type 0} (world : World D) (host : Host D) (changes : List Change) (link : Link)
    (attempt : Attempt)
    (next : ℕ) (others : List Change) (place : ℕ) : Type 0 where
  pub leads : LeadsTo world attempt link next
  pub child : HasOneChild world host changes link attempt others
  pub holds : Contains child.places place

-- The next hop has accepted the place, in an attempt of the node for this message. The node's routes give the attempt's
-- hop for its places, and the attempt has read a 2yz reply to the RCPT of the place and to the mail data. If a node of
-- ours has the hop's name, it holds the place by the one message that it has accepted from the attempt.
pub record HasPassedOn {D : Type 0} (world : World D) (lists : List (List Change)) (node : ℕ) (host : Host D)
    (changes : List Change) (message place : ℕ) : Type 0 where
  pub attempt : Attempt
  pub link : Link
  pub is : IsAttempt world lists host changes link attempt
  pub its_node : attempt.node ≡ node
  pub its_message : attempt.message ≡ message
  pub goes : GoesToHop world lists attempt
  pub answered : List Answered
  pub reads : HasAnswers host changes link attempt answered
  pub accepts : AcceptsPlace answered place
  pub next_holds : (next : ℕ) (at_next : Host D) (others : List Change) → StandsAt world lists next at_next others
      → at_next.config.host ≡ attempt.hop → IsHeldNext world host changes link attempt next others place

-- Each transferred place was accepted so.
abbrev pub TransferredIsAccepted : {D : Type 0} → Type 0 → DiskWords D → Type 0
TransferredIsAccepted {D} honest words =
    (world : World D) (lists : List (List Change)) (asked : List Withdrawing) → IsBound honest words world lists
    → IsTriedOnce world lists asked
    → AreLinkedToHops world → (node : ℕ) (host : Host D) (changes : List Change)
    → StandsAt world lists node host changes
    → (message place : ℕ) → Transferred changes message place
    → HasPassedOn world lists node host changes message place
