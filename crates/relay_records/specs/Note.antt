-- The note of the last append that was begun: what whoever counts messages needs to know of a change, also
-- where a stop left it open.
use Rattle.std.specs.Prelude.{◌≡◌, ℕ, ◌+◌, Bool, true, false, List, [], ◌∷◌, length, Option, Some}
use Rattle.relay_book.specs.declared.change.Change.{Change}
use Rattle.relay_book.specs.declared.change.Change.TheVariants.{Accept, Outcome}
use Rattle.relay_book.specs.Record.{encode}
use Rattle.relay_book.specs.Queue.{Queue, queue_of}
use Rattle.relay_book.specs.Marks.{place_steps}
use Rattle.relay_records.specs.declared.noted.Noted.{Noted}

-- how many recipients a change accepts
abbrev pub accepted_by : Change → ℕ
accepted_by (Accept accept) = length accept.envelope.recipients
accepted_by (Outcome outcome) = 0

abbrev pub is_text : List ℕ → Bool
is_text [] = false
is_text (octet ∷ octets) = true

-- a change queues a report
abbrev pub queues_report : Change → Bool
queues_report (Accept accept) = false
queues_report (Outcome outcome) = is_text outcome.report

-- the note is of this change after these, and of this many octets of the call's piece
pub record IsNoted (noted : Option Noted) (changes : List Change) (change : Change) (used : ℕ) : Type 0 where
  pub note : Noted
  pub is : noted ≡ Some note
  pub number : note.number ≡ length changes + 1
  pub octets : note.octets ≡ encode change
  pub used_is : note.used ≡ used
  pub accepted : note.accepted ≡ accepted_by change
  pub left : note.left.items ≡ place_steps (queue_of changes) change
  pub report : note.report ≡ queues_report change

-- the note of a change that comes next in this queue
pub record NotesNext (queue : Queue) (change : Change) (octets : List ℕ) (used : ℕ) (note : Noted)
    : Type 0 where
  pub number : note.number ≡ queue.next
  pub octets_are : note.octets ≡ octets
  pub used_is : note.used ≡ used
  pub accepted : note.accepted ≡ accepted_by change
  pub left : note.left.items ≡ place_steps queue change
  pub report : note.report ≡ queues_report change
