-- The due times that the fold keeps.
use Rattle.std.specs.Prelude.{◌≡◌, ◌↔◌, ℕ, nat_le, Bool, true, false, List, slice_get}
use Rattle.std.specs.Prelude.{Option, Some, None, option_and_then, option_map, if◌then◌else◌}
use Rattle.std.specs.Option.{option_map_or}
use Rattle.std.specs.List.{filter}
use Rattle.relay_book.specs.declared.change.Change.{Change}
use Rattle.relay_book.specs.declared.message.Place.{Place}
use Rattle.relay_book.specs.declared.message.Message.{Message}
use Rattle.relay_book.specs.DueMoment.{due_moment_of, laters_of}
use Rattle.relay_book.specs.Marks.{Held, message_at}
use Rattle.relay_book.specs.Queue.{Queue, Fitting, due_of, held_of, queue_of, message_of}

-- The due time of each held place is by its acceptance and its Later verdicts.
abbrev pub FoldDue : Type 0
FoldDue =
    (changes : List Change) → Fitting changes → (number place : ℕ) (message : Message) (held : Place)
    → message_of (queue_of changes).messages number ≡ Some message → slice_get message.places place ≡ Some held
    → held.held ≡ true
    → held.due ≡ due_moment_of message.accept.at (laters_of changes number place)

-- when a queue has a held place due
abbrev pub due_if_held : Place → Option ℕ
due_if_held place = if place.held then Some place.due else None

abbrev pub due_in : ℕ → Message → Option ℕ
due_in place message = option_and_then due_if_held (slice_get message.places place)

abbrev pub due_at : Queue → ℕ → ℕ → Option ℕ
due_at queue number place = option_and_then (due_in place) (message_of queue.messages number)

-- the due time of a place by the list of changes: the time of acceptance where the place has no Later verdict, and else
-- a wait that grows with their number after the last one
abbrev pub due_by : List Change → ℕ → ℕ → Option ℕ
due_by changes number place =
    option_map (λ accept. due_moment_of accept.at (laters_of changes number place))
    (message_at changes number)

-- The queue has a place due at a time exactly if the place is held and the list of changes has it due then.
abbrev pub QueueTellsDue : Type 0
QueueTellsDue =
    (changes : List Change) → Fitting changes → (number place moment : ℕ)
    → (due_at (queue_of changes) number place ≡ Some moment)
    ↔ (Held changes number place × (due_by changes number place ≡ Some moment))

-- by the list of changes the place is due at that time or before
abbrev pub is_due_by : List Change → ℕ → ℕ × ℕ → Bool
is_due_by changes now mark =
    option_map_or (λ due. nat_le due now) (due_by changes mark.0 mark.1) false

-- What a queue has due by a time are the held places that the list of changes has due then, in order.
abbrev pub QueueListsDue : Type 0
QueueListsDue =
    (changes : List Change) → Fitting changes → (now : ℕ)
    → due_of now (queue_of changes) ≡ filter (is_due_by changes now) (held_of (queue_of changes))
