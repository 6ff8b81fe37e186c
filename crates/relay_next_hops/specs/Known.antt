-- What the lanes know of the queue: the number of each message that is queued, so that a walk comes to all of them.
use Rattle.std.specs.Prelude.{◌≡◌, ◌⊎◌, ◌<◌, ℕ, true, false, List, [], Option, None, Some, Contains}
use Rattle.relay_book.specs.Queue.{Queue, held_of}
use Rattle.relay_book.specs.declared.message.Message.{Message}
use Rattle.relay_node.specs.Node.{NodeState}
use Rattle.relay_lanes.specs.Numbers.{Walk, numbers_after}
use Rattle.relay_next_hops.specs.declared.lanes.Lanes.{Lanes}

-- the walk is still to come to the message, has come to it, or will come to it the next time
abbrev pub IsKnown : Walk → ℕ → Type 0
IsKnown walk message = Contains walk.left message ⊎ Contains walk.passed message ⊎ Contains walk.newer message

-- Each message with a held place is known, if its number is below this one; or the next listing asks the node for all
-- numbers. No message has the number 0.
abbrev pub AreKnown : {D : Type 0} → NodeState D → ℕ → Lanes → Type 0
AreKnown node next lanes = lanes.knows_all ≡ true → (message place : ℕ) → 0 < message → message < next
    → Contains {X = ℕ × ℕ} (held_of node.records.queue) (message, place) → IsKnown lanes.queued message

-- A message was looked at: if it is queued, its number is noted so. It may be left out for lack of memory; the next
-- listing asks the node for all numbers then.
abbrev pub NotesNumber : (Walk → Walk) → Option Message → Lanes → Lanes → Type 0
NotesNumber noted None old new = (new.queued ≡ old.queued) × (new.knows_all ≡ old.knows_all)
NotesNumber noted (Some message) old new =
    ((new.queued ≡ noted old.queued) × (new.knows_all ≡ old.knows_all)) ⊎ (new.knows_all ≡ false)

-- a walk that hasn't begun, over all messages with held places, each once and in order
abbrev pub walk_of : Queue → Walk
walk_of queue = record { left = []; passed = []; newer = numbers_after 0 (held_of queue) }

-- the next walk goes over the whole queue
abbrev pub gathered : Queue → Lanes → Lanes
gathered queue lanes = record lanes { queued = walk_of queue; knows_all = true }

-- the same, and the messages that arrive from now on are looked at when they arrive
abbrev pub learned : Queue → Lanes → Lanes
learned queue lanes = record (gathered queue lanes) { next_number = queue.next }

-- the queue was learned so; or nothing has changed, for lack of memory
abbrev pub LearnsQueue : Queue → Lanes → Lanes → Type 0
LearnsQueue queue old new = (new ≡ learned queue old) ⊎ (new ≡ old)

-- the messages that have arrived were looked at as far as before, and all numbers are known, or aren't, as before
pub record KeepsNumbers (old new : Lanes) : Type 0 where
  pub next : new.next_number ≡ old.next_number
  pub all : new.knows_all ≡ old.knows_all

-- a listing is in progress, as long as the walk is still to come to a message
abbrev pub IsUnderWay : Lanes → Type 0
IsUnderWay lanes = (lanes.is_listing ≡ true) ⊎ (lanes.queued.left ≡ [])

-- What holds of lanes between calls, for the queue of a node: a listing ends only after its last message; and each
-- queued message that was looked at is known, or will be after the next listing has asked the node.
pub record KnowsQueue {D : Type 0} (node : NodeState D) (lanes : Lanes) : Type 0 where
  pub under_way : IsUnderWay lanes
  pub begun : (0 < lanes.next_number) ⊎ (lanes.knows_all ≡ false)
  pub known : AreKnown node lanes.next_number lanes
