-- Chains of mail among nodes: from a message to one accepted from an attempt for it, and so on. Each accept adds one
-- `Received:` field to what it stores, and mail data with 100 of them is refused (RFC 5321, section 6.3), so a mail
-- loop ends.
use Rattle.std.specs.Prelude.{◌≡◌, ℕ, ◌+◌, ◌≤◌, List, [], ◌∷◌, length, Some, slice_get}
use Rattle.std.specs.List.{Contains}
use Rattle.relay_disk.specs.Device.{DiskWords}
use Rattle.relay_trace.specs.HeaderSection.{received_count_of}
use Rattle.relay_book.specs.declared.change.Accept.{Accept}
use Rattle.relay_book.specs.declared.change.Change.{Change}
use Rattle.relay_book.specs.Marks.{message_at}
use Rattle.relay_world.specs.declared.attempt.Attempt.{Attempt}
use Rattle.relay_world.specs.declared.link.Link.{Link}
use Rattle.relay_world.specs.declared.link.ServerEnd.{ServerEnd}
use Rattle.relay_world.specs.Bound.{IsBound}
use Rattle.relay_world.specs.Children.{children_of}
use Rattle.relay_world.specs.Ledger.{accepts_on}
use Rattle.relay_world.specs.World.{World, link_at}

-- The node has accepted the message on a link that it serves. A message is named by its node and its number there.
pub record IsAccepted {D : Type 0} (world : World D) (message : ℕ × ℕ) : Type 0 where
  pub on : ℕ
  pub link : Link
  pub is_there : link_at world.links on ≡ Some link
  pub end : ServerEnd
  pub serves : link.server ≡ Some end
  pub number : ℕ
  pub places : ℕ
  pub told : Contains {X = ℕ × ℕ} (accepts_on on world.ledger) (number, places)
  pub message_is : message ≡ (end.node, number)

-- The second message is a child of the first: the node that serves the link of an attempt for the first has accepted it
-- there.
pub record IsChild {D : Type 0} (world : World D) (parent child : ℕ × ℕ) : Type 0 where
  pub at : ℕ
  pub attempt : Attempt
  pub is_there : slice_get world.attempts at ≡ Some attempt
  pub parent_is : parent ≡ (attempt.node, attempt.message)
  pub link : Link
  pub its_link : link_at world.links attempt.link ≡ Some link
  pub end : ServerEnd
  pub serves : link.server ≡ Some end
  pub number : ℕ
  pub places : ℕ
  pub accepted : Contains {X = ℕ × ℕ} (children_of world attempt) (number, places)
  pub child_is : child ≡ (end.node, number)

-- a chain from a message: each later message is a child of the one before
abbrev pub IsChain : {D : Type 0} → World D → ℕ × ℕ → List (ℕ × ℕ) → Type 0
IsChain world first [] = Unit {0}
IsChain world first (child ∷ children) = IsChild world first child × IsChain world child children

-- the message, as it is stored, has this many `Received:` fields
pub record HasFields (lists : List (List Change)) (message : ℕ × ℕ) (count : ℕ) : Type 0 where
  pub changes : List Change
  pub list_at : slice_get lists message.0 ≡ Some changes
  pub accept : Accept
  pub found : message_at changes message.1 ≡ Some accept
  pub count_is : received_count_of accept.stored_text ≡ count

-- What the invariant guarantees of chains.
pub record KeepsChainsShort {D : Type 0} (world : World D) (lists : List (List Change)) : Type 0 where
  -- an accepted message has one field more than the mail data that came, which has at most 99
  pub accepted : (message : ℕ × ℕ) → IsAccepted world message
      → (content : ℕ) × HasFields lists message (content + 1) × (content ≤ 99)
  -- a child has one field more than its parent, whose stored text is its mail data
  pub child : (parent child : ℕ × ℕ) → IsChild world parent child
      → (content : ℕ) × HasFields lists parent content × HasFields lists child (content + 1) × (content ≤ 99)
  -- no chain has more than 100 children
  pub chains : (first : ℕ × ℕ) (children : List (ℕ × ℕ)) → IsChain world first children → length children ≤ 100
  -- nor more than 100 accepts, if its first message was accepted too
  pub accepts : (first : ℕ × ℕ) (children : List (ℕ × ℕ)) → IsAccepted world first → IsChain world first children
      → length (first ∷ children) ≤ 100

-- The invariant guarantees this.
abbrev pub ChainsAreShort : {D : Type 0} → Type 0 → DiskWords D → Type 0
ChainsAreShort {D} honest words =
    (world : World D) (lists : List (List Change)) → IsBound honest words world lists → KeepsChainsShort world lists
