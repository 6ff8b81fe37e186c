-- Where the queue has the places that are held.
use Rattle.std.specs.Prelude.{◌≡◌, ◌↔◌, ℕ, Bool, true, false, List, Some}
use Rattle.std.specs.Option.{option_map_or}
use Rattle.relay_book.specs.declared.change.Change.{Change}
use Rattle.relay_book.specs.declared.message.Message.{Message}
use Rattle.relay_book.specs.Queue.{Queue, Fitting, holds_at, message_of, queue_of}
use Rattle.relay_book.specs.Marks.{Held}

-- the message of this number is queued, and holds this place
abbrev pub holds_place : Queue → ℕ → ℕ → Bool
holds_place queue number place =
    option_map_or (λ message. holds_at message.places place) (message_of queue.messages number)
    false

-- A place is held exactly if the queued message of its number holds it.
abbrev pub FoldFinds : Type 0
FoldFinds =
    (changes : List Change) → Fitting changes → (number place : ℕ)
    → (holds_place (queue_of changes) number place ≡ true) ↔ Held changes number place

-- A queued message has a held place.
abbrev pub QueuedIsHeld : Type 0
QueuedIsHeld =
    (changes : List Change) → Fitting changes → (number : ℕ) (message : Message)
    → message_of (queue_of changes).messages number ≡ Some message
    → (place : ℕ) × (holds_at message.places place ≡ true) × Held changes number place
