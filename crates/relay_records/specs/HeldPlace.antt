-- A held place, as the queue has it and as the list of changes tells it.
use Rattle.std.specs.Prelude.{◌≡◌, ℕ, List, slice_get, Option, None, Some, if◌then◌else◌}
use Rattle.std.specs.Option.{option_and_then, option_map}
use Rattle.relay_envelope.specs.declared.envelope.Recipient.{Recipient}
use Rattle.relay_book.specs.declared.change.Accept.{Accept}
use Rattle.relay_book.specs.declared.change.Change.{Change}
use Rattle.relay_book.specs.declared.message.Message.{Message}
use Rattle.relay_book.specs.declared.message.Place.{Place}
use Rattle.relay_book.specs.DueMoment.{due_moment_of, laters_of}
use Rattle.relay_book.specs.Marks.{Held, message_at}
use Rattle.relay_book.specs.Queue.{Queue, message_of}

-- where a place is held, its recipient's path and when it is due
abbrev pub waiting_for : Option Recipient → Place → Option (List ℕ × ℕ)
waiting_for recipient place =
    if place.held then option_map (λ recipient. (recipient.path, place.due)) recipient else None

abbrev pub waiting_in : ℕ → Message → Option (List ℕ × ℕ)
waiting_in place message =
    option_and_then
    (waiting_for (slice_get message.accept.envelope.recipients place)) (slice_get message.places place)

-- the path and the due time of a held place of the queue
abbrev pub waiting_at : Queue → ℕ → ℕ → Option (List ℕ × ℕ)
waiting_at queue number place = option_and_then (waiting_in place) (message_of queue.messages number)

-- by the list of changes the place is held, this is its recipient's path, and it is due then
pub record IsWaiting (changes : List Change) (number place : ℕ) (path : List ℕ) (due : ℕ) : Type 0 where
  pub held : Held changes number place
  pub accept : Accept
  pub message : message_at changes number ≡ Some accept
  pub recipient : Recipient
  pub at : slice_get accept.envelope.recipients place ≡ Some recipient
  pub path_is : path ≡ recipient.path
  pub due_is : due ≡ due_moment_of accept.at (laters_of changes number place)
