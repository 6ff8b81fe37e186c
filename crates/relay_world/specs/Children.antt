-- What an attempt has relayed: the places whose RCPT its hop has accepted, and the messages that a node accepted on its
-- link.
use Rattle.std.specs.Prelude.{◌≡◌, ℕ, List, [], ◌∷◌, length, take, Some, slice_get}
use Rattle.relay_lines.specs.Reply.{Reply}
use Rattle.relay_lines.specs.ReplyReading.{CutsAllReplies}
use Rattle.relay_book.specs.declared.change.Accept.{Accept}
use Rattle.relay_book.specs.declared.change.Change.{Change}
use Rattle.relay_book.specs.declared.change.Change.TheVariants as change
use Rattle.relay_book.specs.Marks.{change_at, message_at}
use Rattle.relay_course.specs.Course.{IsSentAs, delivery_of}
use Rattle.relay_course.specs.Laws.{accepted_places}
use Rattle.relay_course.specs.Progress.{Answered, progress}
use Rattle.relay_meeting.specs.Joined.{recipients_at}
use Rattle.relay_world.specs.declared.attempt.Attempt.{Attempt}
use Rattle.relay_world.specs.declared.link.Link.{Link}
use Rattle.relay_world.specs.Bound.{StandsAt}
use Rattle.relay_world.specs.Ledger.{accepts_on}
use Rattle.relay_world.specs.World.{Host, World, link_at}

-- an attempt of a world, with its node, that node's changes, and its link
pub record IsAttempt {D : Type 0} (world : World D) (lists : List (List Change)) (host : Host D) (changes : List Change)
    (link : Link) (attempt : Attempt) : Type 0 where
  pub at : ℕ
  pub is_there : slice_get world.attempts at ≡ Some attempt
  pub stands : StandsAt world lists attempt.node host changes
  pub its_link : link_at world.links attempt.link ≡ Some link

-- The answers in the course of an attempt, from all replies that it has read.
pub record HasAnswers {D : Type 0} (host : Host D) (changes : List Change) (link : Link) (attempt : Attempt)
    (answered : List Answered) : Type 0 where
  pub accept : Accept
  pub accepted : message_at changes attempt.message ≡ Some accept
  pub dot_text : List ℕ
  pub sent : IsSentAs accept.stored_text dot_text
  pub replies : List Reply
  pub rest : List ℕ
  pub read : CutsAllReplies (take link.down_read link.down) replies rest
  pub answered_are : answered
      ≡ (progress (delivery_of host.config.host accept.envelope accept.stored_text dot_text attempt.places.items)
      replies).answered

-- The child places of an attempt: those whose RCPT got a 2yz reply that the attempt has read, in order.
pub record AreChildPlaces {D : Type 0} (host : Host D) (changes : List Change) (link : Link) (attempt : Attempt)
    (places : List ℕ) : Type 0 where
  pub answered : List Answered
  pub reads : HasAnswers host changes link attempt answered
  pub places_are : places ≡ accepted_places answered

-- the children of an attempt: the messages that a node accepted on its link, each with its number and its number of
-- places
abbrev pub children_of : {D : Type 0} → World D → Attempt → List (ℕ × ℕ)
children_of world attempt = accepts_on attempt.link world.ledger

-- The change of a number accepts what a message is for these places (RFC 3461, section 5.2.1): its reverse path, RET
-- and ENVID, and the recipients at the places, in order, each with its path, NOTIFY and ORCPT.
pub record HoldsPlaces (parent : Accept) (places : List ℕ) (changes : List Change) (number : ℕ) : Type 0 where
  pub child : Accept
  pub found : change_at changes number ≡ Some (change.Accept child)
  pub reverse_path : child.envelope.reverse_path ≡ parent.envelope.reverse_path
  pub ret : child.envelope.ret ≡ parent.envelope.ret
  pub envid : child.envelope.envid ≡ parent.envelope.envid
  pub recipients : child.envelope.recipients ≡ recipients_at parent.envelope.recipients places

-- The attempt has exactly this child, at a node with these changes, and the child holds the child places.
pub record HasOneChild {D : Type 0} (world : World D) (host : Host D) (changes : List Change) (link : Link)
    (attempt : Attempt)
    (others : List Change) : Type 0 where
  pub number : ℕ
  pub places : List ℕ
  pub are_its : AreChildPlaces host changes link attempt places
  pub one : children_of world attempt ≡ (number, length places) ∷ []
  pub parent : Accept
  pub parent_is : message_at changes attempt.message ≡ Some parent
  pub holds : HoldsPlaces parent places others number
