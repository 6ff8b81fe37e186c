-- The outline of a queue: the queue with its numbers, envelopes, places and times, in which the length of each text
-- stands in for the text. It says what a view of the queue shows, and is small however long the texts are.
use Rattle.std.specs.Prelude.{◌≡◌, ◌↔◌, ℕ, ◌<◌, ◌^◌, ◌==◌, List, [], ◌∷◌, length, map, option_map, if◌then◌else◌}
use Rattle.std.specs.Int.{w64, from_be_bytes}
use Rattle.relay_book.specs.declared.change.Accept.{Accept as AcceptFields}
use Rattle.relay_book.specs.declared.change.Outcome.{Outcome as OutcomeFields}
use Rattle.relay_book.specs.declared.change.Change.{Change}
use Rattle.relay_book.specs.declared.change.Change.TheVariants.{Accept, Outcome}
use Rattle.relay_book.specs.declared.version.SnapshotVersion.{SnapshotVersion}
use Rattle.relay_book.specs.declared.message.Message.{Message}
use Rattle.relay_book.specs.Queue.{Queue, FitsQueue, held_of, message_of, step}
use Rattle.relay_book.specs.Record.{IsChange, octets_8}
use Rattle.relay_book.specs.Snapshot.{IsSnapshotOf}
use Rattle.relay_book.specs.SnapshotFields.{AreEntries}
use Rattle.relay_book.specs.StandsFor.{ReadsBody, ReadsFirst}

-- what stands in for a text: its length in eight octets, and nothing for an empty text
abbrev pub outline_text : List ℕ → List ℕ
outline_text [] = []
outline_text (octet ∷ text) = octets_8 (length (octet ∷ text))

-- the length that it says
abbrev pub length_in : List ℕ → ℕ
length_in octets = if length octets == 8 then from_be_bytes w64 octets else 0

-- an accept whose text is outlined
abbrev pub outline_accept : AcceptFields → AcceptFields
outline_accept accept = record accept { stored_text = outline_text accept.stored_text }

-- an outcome whose report is outlined
abbrev pub outline_outcome : OutcomeFields → OutcomeFields
outline_outcome outcome = record outcome { report = outline_text outcome.report }

-- a change whose text is outlined
abbrev pub outline_change : Change → Change
outline_change (Accept accept) = Accept (outline_accept accept)
outline_change (Outcome outcome) = Outcome (outline_outcome outcome)

-- a message whose text is outlined
abbrev pub outline_message : Message → Message
outline_message message = record message { accept = outline_accept message.accept }

abbrev pub outline_entry : ℕ × Message → ℕ × Message
outline_entry entry = (entry.0, outline_message entry.1)

-- the outline of a queue
abbrev pub outline_of : Queue → Queue
outline_of queue = record { next = queue.next; messages = map outline_entry queue.messages }

-- The outline after a change is the outline before it after the outlined change.
abbrev pub OutlineSteps : Type 0
OutlineSteps =
    (queue : Queue) (change : Change) → outline_of (step queue change) ≡ step (outline_of queue) (outline_change change)

-- A change that may be stored fits a queue exactly if the outlined change fits the outline.
abbrev pub OutlineFits : Type 0
OutlineFits =
    (queue : Queue) (change : Change) → IsChange change
    → FitsQueue (outline_of queue) (outline_change change) ↔ FitsQueue queue change

-- The same places are held in an outline.
abbrev pub OutlineHolds : Type 0
OutlineHolds = (queue : Queue) → held_of (outline_of queue) ≡ held_of queue

-- A message is found in an outline exactly if it is in the queue, and it is outlined there.
abbrev pub OutlineFinds : Type 0
OutlineFinds =
    (queue : Queue) (number : ℕ)
    → message_of (outline_of queue).messages number ≡ option_map outline_message (message_of queue.messages number)

-- An outlined text says how long the text is.
abbrev pub OutlineTells : Type 0
OutlineTells = (text : List ℕ) → length text < 2 ^ 64 → length_in (outline_text text) ≡ length text

-- the body is the record of a change that fits the queue of this outline, and the change leaves a queue of that one
pub record ReadsOutline (queue : Queue) (body : List ℕ) (outline : Queue) : Type 0 where
  pub left : Queue
  pub reads : ReadsBody queue body left
  pub outline_is : outline ≡ outline_of left

-- the first body leaves a queue of this outline
pub record ReadsFirstOutline (body : List ℕ) (outline : Queue) : Type 0 where
  pub left : Queue
  pub reads : ReadsFirst body left
  pub outline_is : outline ≡ outline_of left

-- the octets are the snapshot of a queue of this outline
pub record OutlinesSnapshot (octets : List ℕ) (outline : Queue) : Type 0 where
  pub left : Queue
  pub is : IsSnapshotOf octets left
  pub outline_is : outline ≡ outline_of left

-- the text is this many messages of a queue with this next number, which were outlined so
pub record OutlinesEntries (version : SnapshotVersion) (count next : ℕ) (text : List ℕ)
    (outlined : List (ℕ × Message)) : Type 0 where
  pub messages : List (ℕ × Message)
  pub are : AreEntries version count next text messages
  pub outlined_are : outlined ≡ map outline_entry messages
