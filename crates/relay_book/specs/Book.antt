-- What contracts see of a book: its queue, and what was made ready for the next change.
use Rattle.std.specs.Prelude.{◌≡◌, ℕ, suc, ◌≤◌, ◌==◌, ◌&&◌, Bool, true, List, [], ◌∷◌, ◌++◌, map, Option, None, Some}
use Rattle.std.specs.Prelude.{is_some, if◌then◌else◌}
use Rattle.std.specs.List.{AllByRecursion, Contains, filter, flat_map, list_any}
use Rattle.relay_book.specs.declared.change.Outcome.{Outcome as OutcomeFields}
use Rattle.relay_book.specs.declared.message.Place.{Place}
use Rattle.relay_book.specs.declared.message.Message.{Message}
use Rattle.relay_book.specs.Queue.{Queue, is_held, marks_from, marks_of_entry, message_after, message_of}

-- the queue, room for messages, and the keys that tell when places are due
pub record Shown : Type 0 where
  pub queue : Queue
  pub room : ℕ
  pub told : List (ℕ × ℕ)

-- the message of an entry, if it hasn't ended
abbrev pub if_there : ℕ → Option Message → List (ℕ × Message)
if_there number None = []
if_there number (Some message) = (number, message) ∷ []

-- the entry's message hasn't ended
abbrev pub is_there : ℕ × Option Message → Bool
is_there entry = is_some entry.1

-- the messages that haven't ended: the other entries wait to be cleared away
abbrev pub live : List (ℕ × Option Message) → List (ℕ × Message)
live [] = []
live (entry ∷ entries) = if_there entry.0 entry.1 ++ live entries

abbrev pub shown : ℕ → List (ℕ × Option Message) → ℕ → List (ℕ × ℕ) → Shown
shown next entries room told =
    record { queue = record { next = next; messages = live entries }; room = room; told = told }

-- a message with a held place; another has ended
abbrev pub kept : Message → Option Message
kept message = if list_any is_held message.places then Some message else None

-- an entry after an outcome for it
abbrev pub slot_after : OutcomeFields → Option Message → Option Message
slot_after outcome None = None
slot_after outcome (Some message) = kept (message_after outcome message)

-- the places of an entry that pass a test, and those of all entries
abbrev pub marks_of_slot : (Place → Bool) → ℕ → Option Message → List (ℕ × ℕ)
marks_of_slot test number None = []
marks_of_slot test number (Some message) = marks_from test number 0 message.places

-- the places of a number's message that pass a test
abbrev pub marks_at : (Place → Bool) → List (ℕ × Message) → ℕ → List (ℕ × ℕ)
marks_at test entries number = marks_of_slot test number (message_of entries number)

abbrev pub marks_live : (Place → Bool) → List (ℕ × Option Message) → List (ℕ × ℕ)
marks_live test entries = flat_map (marks_of_entry test) (live entries)

-- the number of an entry, where its message hasn't ended and passes a test, and the numbers of all such entries
abbrev pub number_of_slot : (Message → Bool) → ℕ → Option Message → List ℕ
number_of_slot test number None = []
number_of_slot test number (Some message) = if test message then number ∷ [] else []

abbrev pub numbers_live : (Message → Bool) → List (ℕ × Option Message) → List ℕ
numbers_live test entries = map (λ entry. entry.0) (filter (λ entry. test entry.1) (live entries))

-- numbers rise, from one number to below another
abbrev pub Rise : {A : Type 0} → ℕ → ℕ → List (ℕ × A) → Type 0
Rise least next [] = least ≤ next
Rise least next (entry ∷ entries) = (least ≤ entry.0) × Rise (suc entry.0) next entries

-- the keys tell when this place is due
abbrev pub IsTold : List (ℕ × ℕ) → ℕ → Place → Type 0
IsTold keys number place = place.held ≡ true → Contains {X = ℕ × ℕ} keys (place.due, number)

abbrev pub AreTold : List (ℕ × ℕ) → ℕ → List Place → Type 0
AreTold keys number places = AllByRecursion (IsTold keys number) places

-- the keys tell when each place is due; they may tell more, and a key that was left after makes
-- no place due
abbrev pub AllTold : List (ℕ × ℕ) → List (ℕ × Message) → Type 0
AllTold keys entries = AllByRecursion (λ entry. AreTold keys entry.0 entry.1.places) entries

-- a held place is due then
abbrev pub is_held_until : ℕ → Place → Bool
is_held_until due place = place.held && place.due == due

-- the numbers of the keys up to a time are among these
abbrev pub HasNumbers : List (ℕ × ℕ) → ℕ → List ℕ → Type 0
HasNumbers keys latest numbers = (key : ℕ × ℕ) → key.0 ≤ latest → Contains keys key → Contains numbers key.1
