-- What is ready to be committed: a change, and the message that it queues.
use Rattle.std.specs.Prelude.{◌≡◌, ℕ, ◌<◌, List, [], ◌∷◌, Option, None, Some}
use Rattle.relay_book.specs.declared.change.Change.{Change}
use Rattle.relay_book.specs.declared.change.Change.TheVariants.{Accept, Outcome}
use Rattle.relay_book.specs.declared.message.Message.{Message}
use Rattle.relay_book.specs.declared.ready.Made.{Made}
use Rattle.relay_book.specs.declared.ready.Made.TheVariants.{Accepted, Ruled, Reported}
use Rattle.relay_book.specs.Queue.{Queue, FitsQueue, accepted, message_of, reported, step}
use Rattle.relay_book.specs.Book.{Shown, AllTold}

pub record ReadyShown : Type 0 where
  pub change : Change
  pub message : Option Message

-- the change; a report's text is in its message
abbrev pub change_of : Made → Change
change_of (Accepted message) = Accept message.accept
change_of (Ruled outcome) = Outcome outcome
change_of (Reported outcome report) = Outcome (record outcome { report = report.accept.stored_text })

abbrev pub message_in : Made → Option Message
message_in (Accepted message) = Some message
message_in (Ruled outcome) = None
message_in (Reported outcome report) = Some report

abbrev pub ready_shown : Made → ReadyShown
ready_shown made = record { change = change_of made; message = message_in made }

-- the entry of a message
abbrev pub entry_of : ℕ → Option Message → List (ℕ × Message)
entry_of number None = []
entry_of number (Some message) = (number, message) ∷ []

-- the message that a change queues
abbrev pub added_by : Queue → Change → List (ℕ × Message)
added_by queue (Accept accept) = (queue.next, accepted queue.next accept) ∷ []
added_by queue (Outcome outcome) =
    reported queue.next outcome outcome.report (message_of queue.messages outcome.message)

-- the change fits the book, which has room for it; its message is made; and the keys tell when each place
-- will be due
pub record IsReady (book : Shown) (ready : ReadyShown) : Type 0 where
  pub fits : FitsQueue book.queue ready.change
  pub added : added_by book.queue ready.change ≡ entry_of book.queue.next ready.message
  pub room : 0 < book.room
  pub told : AllTold book.told (step book.queue ready.change).messages
