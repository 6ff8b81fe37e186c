-- How many copies of a message reach a recipient from a node: one, and one more for each lost reply (RFC 5321, section
-- 6.1; RFC 1047).
use Rattle.std.specs.Prelude.{◌≡◌, ◌⊎◌, ◌↔◌, ◌≤◌, ◌==◌, ℕ, ◌+◌, Bool, true, false, ◌&&◌, List, [], ◌∷◌, length, Some}
use Rattle.std.specs.List.{Contains, filter, list_any}
use Rattle.relay_disk.specs.Device.{DiskWords}
use Rattle.relay_lines.specs.Reply.{Reply}
use Rattle.relay_book.specs.declared.change.Change.{Change}
use Rattle.relay_course.specs.Laws.{accepted_places}
use Rattle.relay_course.specs.Progress.{Delivery, progress}
use Rattle.relay_world.specs.declared.attempt.Attempt.{Attempt}
use Rattle.relay_world.specs.declared.attempt.Fate.{Fate}
use Rattle.relay_world.specs.declared.attempt.Fate.TheVariants.{Running, Replied, Lost, Dropped}
use Rattle.relay_world.specs.declared.link.Link.{Link}
use Rattle.relay_world.specs.Bound.{IsBound, StandsAt}
use Rattle.relay_world.specs.Children.{AreChildPlaces, children_of}
use Rattle.relay_world.specs.GivingUp.{Withdrawing}
use Rattle.relay_world.specs.Once.{IsTriedOnce}
use Rattle.relay_world.specs.World.{Host, World, link_at}

-- The attempt is for this message of a node, and the place is one of its child places.
pub record PassesPlace {D : Type 0} (world : World D) (lists : List (List Change)) (node message place : ℕ)
    (attempt : Attempt) : Type 0 where
  pub its_node : attempt.node ≡ node
  pub its_message : attempt.message ≡ message
  pub host : Host D
  pub changes : List Change
  pub stands : StandsAt world lists attempt.node host changes
  pub link : Link
  pub its_link : link_at world.links attempt.link ≡ Some link
  pub places : List ℕ
  pub are_its : AreChildPlaces host changes link attempt places
  pub holds : Contains places place

-- These are all replies that the attempt has read, each of them has answered something, and the place is a child place
-- exactly if its RCPT got a 2yz reply.
pub record IsDecidedBy {D : Type 0} (world : World D) (lists : List (List Change)) (node message place : ℕ)
    (attempt : Attempt) (replies : List Reply) : Type 0 where
  pub delivery : Delivery
  pub places_are : delivery.places ≡ attempt.places.items
  pub each : length (progress delivery replies).answered ≡ length replies
  pub passes : PassesPlace world lists node message place attempt
      ↔ Contains (accepted_places (progress delivery replies).answered) place

-- the copies by one attempt: the number of its children if the place is a child place, else 0
abbrev pub CopiesBy : {D : Type 0} → World D → List (List Change) → ℕ → ℕ → ℕ → Attempt → ℕ → Type 0
CopiesBy world lists node message place attempt count =
    (PassesPlace world lists node message place attempt × (count ≡ length (children_of world attempt)))
    ⊎ ((PassesPlace world lists node message place attempt → ⊥) × (count ≡ 0))

-- the sum of the copies by these attempts
abbrev pub CopiesByAll : {D : Type 0} → World D → List (List Change) → ℕ → ℕ → ℕ → List Attempt → ℕ → Type 0
CopiesByAll world lists node message place [] count = count ≡ 0
CopiesByAll world lists node message place (attempt ∷ attempts) count =
    (mine others : ℕ) × CopiesBy world lists node message place attempt mine
    × CopiesByAll world lists node message place attempts others × (count ≡ mine + others)

-- this many copies of the message of a node hold the place
abbrev pub Copies : {D : Type 0} → World D → List (List Change) → ℕ → ℕ → ℕ → ℕ → Type 0
Copies world lists node message place count = CopiesByAll world lists node message place world.attempts count

-- the attempt has ended without a final reply: its link was lost, or its node dropped it
abbrev pub is_lost : Fate → Bool
is_lost (Running slot) = false
is_lost (Replied number) = false
is_lost (Lost number) = true
is_lost Dropped = true

-- the attempt is a lost reply for this place of a node's message
abbrev pub is_lost_reply : ℕ → ℕ → ℕ → Attempt → Bool
is_lost_reply node message place attempt =
    attempt.node == node && (attempt.message == message
    && (list_any (λ tried. tried == place) attempt.places.items && is_lost attempt.fate))

abbrev pub lost_replies_of : ℕ → ℕ → ℕ → List Attempt → ℕ
lost_replies_of node message place attempts = length (filter (is_lost_reply node message place) attempts)

-- The number of copies is defined, and is at most one more than the number of lost replies.
pub record HasFewCopies {D : Type 0} (world : World D) (lists : List (List Change)) (node message place : ℕ)
    : Type 0 where
  pub count : ℕ
  pub copies : Copies world lists node message place count
  pub one : (other : ℕ) → Copies world lists node message place other → other ≡ count
  pub few : count ≤ 1 + lost_replies_of node message place world.attempts

-- This holds in each world with the invariant in which each place is tried once at a time.
abbrev pub CopiesAreFew : {D : Type 0} → Type 0 → DiskWords D → Type 0
CopiesAreFew {D} honest words =
    (world : World D) (lists : List (List Change)) (asked : List Withdrawing) → IsBound honest words world lists
    → IsTriedOnce world lists asked
    → (node message place : ℕ) → HasFewCopies world lists node message place
