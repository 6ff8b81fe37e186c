-- Why a place has left (RFC 5321, section 4.2.5 and 6.1): by the course of an attempt for its message, since it has no
-- hop, or since the postmaster has withdrawn it.
use Rattle.std.specs.Prelude.{◌≡◌, ◌⊎◌, ℕ, Bool, List, None, Some, take}
use Rattle.std.specs.List.{Contains}
use Rattle.relay_disk.specs.Device.{DiskWords}
use Rattle.relay_attempts.specs.Hops.{hop_of_place}
use Rattle.relay_attempts.specs.Outcomes.{rulings_of}
use Rattle.relay_book.specs.declared.change.Accept.{Accept}
use Rattle.relay_book.specs.declared.change.Change.{Change}
use Rattle.relay_book.specs.declared.change.Verdict.{Verdict}
use Rattle.relay_book.specs.declared.change.Verdict.TheVariants.{NoRoute, Withdrawn}
use Rattle.relay_book.specs.declared.change.Withdrawal.{Withdrawal}
use Rattle.relay_book.specs.declared.fate.Way.{Way}
use Rattle.relay_book.specs.Marks.{LeavesAt, message_at}
use Rattle.relay_course.specs.Course.{IsCourse}
use Rattle.relay_world.specs.declared.attempt.Attempt.{Attempt}
use Rattle.relay_world.specs.declared.attempt.Fate.TheVariants.{Lost, Replied}
use Rattle.relay_world.specs.declared.link.Link.{Link}
use Rattle.relay_world.specs.Bound.{IsBound, StandsAt}
use Rattle.relay_world.specs.Children.{IsAttempt}
use Rattle.relay_world.specs.GivingUp.{IsAsked, Withdrawing}
use Rattle.relay_world.specs.Once.{IsTriedOnce}
use Rattle.relay_world.specs.World.{Host, World}

-- An attempt of the node for this message has ended with the change of this number as its outcome. The course of what
-- it read, with the loss of its link if it was lost, gives the place this verdict.
pub record GaveVerdict {D : Type 0} (world : World D) (lists : List (List Change)) (node : ℕ) (host : Host D)
    (changes : List Change) (at message place : ℕ) (verdict : Verdict) : Type 0 where
  pub attempt : Attempt
  pub link : Link
  pub is : IsAttempt world lists host changes link attempt
  pub its_node : attempt.node ≡ node
  pub its_message : attempt.message ≡ message
  pub ended : (attempt.fate ≡ Replied at) ⊎ (attempt.fate ≡ Lost at)
  pub accept : Accept
  pub accepted : message_at changes message ≡ Some accept
  pub told : Bool
  pub output : List ℕ
  pub verdicts : List Verdict
  pub course : IsCourse host.config.host accept.envelope accept.stored_text attempt.places.items
      (take link.down_read link.down) told output (Some verdicts)
  pub gives : Contains (rulings_of attempt.places.items verdicts) (record { place = place; verdict = verdict })

-- the node's routes give this place of the message no hop, and that is the verdict
pub record HadNoHop {D : Type 0} (host : Host D) (changes : List Change) (message place : ℕ) (verdict : Verdict)
    : Type 0 where
  pub is : verdict ≡ NoRoute
  pub accept : Accept
  pub accepted : message_at changes message ≡ Some accept
  pub none : hop_of_place host.config.routes accept.envelope.recipients place ≡ None

-- the verdict is the postmaster's, who has asked for it
abbrev pub WasWithdrawn : List Withdrawing → ℕ → ℕ → ℕ → Verdict → Type 0
WasWithdrawn asked node message place verdict =
    (withdrawal : Withdrawal) × (verdict ≡ Withdrawn withdrawal) × IsAsked asked node message place withdrawal

-- Each place that has left has left by one of the three.
abbrev pub LeavingIsCaused : {D : Type 0} → Type 0 → DiskWords D → Type 0
LeavingIsCaused {D} honest words =
    (world : World D) (lists : List (List Change)) (asked : List Withdrawing) → IsBound honest words world lists
    → IsTriedOnce world lists asked
    → (node : ℕ) (host : Host D) (changes : List Change) → StandsAt world lists node host changes
    → (at message place : ℕ) (way : Way) (leaves : LeavesAt changes at message place way)
    → GaveVerdict world lists node host changes at message place leaves.verdict
    ⊎ (HadNoHop host changes message place leaves.verdict ⊎ WasWithdrawn asked node message place leaves.verdict)
