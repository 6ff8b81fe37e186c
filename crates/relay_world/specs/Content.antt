-- What is relayed: as mail data the stored text and nothing else, which the next node of ours stores after one new time
-- stamp line (RFC 5321, section 4.4).
use Rattle.std.specs.Prelude.{◌≡◌, ℕ, List, Some, slice_get}
use Rattle.std.specs.List.{AllByRecursion, Contains}
use Rattle.relay_disk.specs.Device.{DiskWords}
use Rattle.relay_trace.specs.TimeStamp.{IsPassed, Stamp}
use Rattle.relay_book.specs.declared.change.Accept.{Accept}
use Rattle.relay_book.specs.declared.change.Change.{Change}
use Rattle.relay_book.specs.declared.change.Change.TheVariants as change
use Rattle.relay_book.specs.Marks.{change_at, message_at}
use Rattle.relay_course.specs.Course.{IsSentAs, delivery_of, joined}
use Rattle.relay_course.specs.Laws.{IsWritten}
use Rattle.relay_octets.specs.Beginning.{Begins}
use Rattle.relay_world.specs.declared.attempt.Attempt.{Attempt}
use Rattle.relay_world.specs.declared.link.Link.{Link}
use Rattle.relay_world.specs.declared.link.ServerEnd.{ServerEnd}
use Rattle.relay_world.specs.Bound.{IsBound, StandsAt}
use Rattle.relay_world.specs.Ledger.{accepts_on}
use Rattle.relay_world.specs.World.{Host, World, link_at}

-- What was written for a message is a prefix of commands, each of which a server reads as it was meant; the only mail
-- data is the message's stored text.
pub record SendsOnly (host : List ℕ) (accept : Accept) (attempt : Attempt) (written : List ℕ) : Type 0 where
  pub dot_text : List ℕ
  pub sent : IsSentAs accept.stored_text dot_text
  pub commands : List (List ℕ)
  pub begins : Begins written (joined commands)
  pub each : AllByRecursion
      (IsWritten (delivery_of host accept.envelope accept.stored_text dot_text attempt.places.items)) commands

-- the child's stored text is its parent's after one new time stamp line
pub record IsAfterOneLine (parent child : Accept) : Type 0 where
  pub stamp : Stamp
  pub passed : IsPassed stamp parent.stored_text child.stored_text

-- A message accepted on a link from an attempt: the change of its number accepts the envelope and text of the attempt's
-- message, after one time stamp line.
pub record IsPassedOn (parent : Accept) (changes : List Change) (number : ℕ) : Type 0 where
  pub child : Accept
  pub found : change_at changes number ≡ Some (change.Accept child)
  pub after : IsAfterOneLine parent child

-- an attempt relays no more of a message than this
pub record PassesOnly {D : Type 0} (world : World D) (lists : List (List Change)) (number : ℕ) (link : Link)
    (host : Host D)
    (attempt : Attempt) (accept : Accept) : Type 0 where
  pub sends : SendsOnly host.config.host accept attempt link.up
  pub passed : (end : ServerEnd) (changes : List Change) (child places : ℕ) → link.server ≡ Some end
      → slice_get lists end.node ≡ Some changes
      → Contains {X = ℕ × ℕ} (accepts_on number world.ledger) (child, places)
      → IsPassedOn accept changes child

-- The invariant guarantees this on each link on which an attempt writes.
abbrev pub ContentIsKept : {D : Type 0} → Type 0 → DiskWords D → Type 0
ContentIsKept {D} honest words =
    (world : World D) (lists : List (List Change)) → IsBound honest words world lists
    → (number place : ℕ) (link : Link) (attempt : Attempt) (host : Host D) (changes : List Change) (accept : Accept)
    → link_at world.links number ≡ Some link → link.client ≡ Some place
    → slice_get world.attempts place ≡ Some attempt → StandsAt world lists attempt.node host changes
    → message_at changes attempt.message ≡ Some accept
    → PassesOnly world lists number link host attempt accept
