-- Which held places were reported as delayed, by the list of changes.
use Rattle.std.specs.Prelude.{◌≡◌, ℕ, ◌+◌, ◌==◌, nat_le, Bool, true, false, not, ◌&&◌, List, Some, slice_get}
use Rattle.std.specs.List.{list_any}
use Rattle.std.specs.Option.{option_map_or}
use Rattle.relay_book.specs.declared.version.Version.{Version}
use Rattle.relay_book.specs.declared.version.Version.TheVariants.{WithDelay}
use Rattle.relay_book.specs.declared.change.Accept.{Accept as AcceptFields}
use Rattle.relay_book.specs.declared.change.Outcome.{Outcome as OutcomeFields}
use Rattle.relay_book.specs.declared.change.Ruling.{Ruling}
use Rattle.relay_book.specs.declared.change.Change.{Change}
use Rattle.relay_book.specs.declared.change.Change.TheVariants.{Accept, Outcome}
use Rattle.relay_book.specs.declared.message.Place.{Place}
use Rattle.relay_book.specs.declared.message.Message.{Message}
use Rattle.relay_book.specs.DueMoment.{waits_in}
use Rattle.relay_book.specs.declared.fate.PlaceStep.{PlaceStep}
use Rattle.relay_book.specs.declared.fate.PlaceStep.TheVariants as made
use Rattle.relay_book.specs.DueReport.{lateness, patience, reports_delay, wants_delay}
use Rattle.relay_book.specs.Marks.{place_steps}
use Rattle.relay_book.specs.Queue.{FitsQueue, Fitting, due_report_at, message_of, queue_of}
use Rattle.relay_book.specs.Record.{is_null}

-- the sender of a message asked to be told of a delay of this place, and can be told
abbrev pub asks_of_delay : AcceptFields → ℕ → Bool
asks_of_delay accept place =
    not (is_null accept.envelope.reverse_path)
    && option_map_or (λ recipient. wants_delay recipient.notify) (slice_get accept.envelope.recipients place) false

-- by this version and at this time a delay of the place is to be told
abbrev pub is_delay : Version → AcceptFields → ℕ → ℕ → Bool
is_delay version accept at place =
    reports_delay version && (nat_le (accept.at + lateness) at && asks_of_delay accept place)

-- a change puts off the place of a message that is late, and whose sender asked to be told
abbrev pub delays_with : AcceptFields → ℕ → ℕ → Change → Bool
delays_with accept number place (Accept other) = false
delays_with accept number place (Outcome outcome) =
    outcome.message == number
    && (waits_in place outcome.rulings && is_delay outcome.version accept outcome.at place)

-- A held place was reported as delayed exactly if a change has put it off so.
abbrev pub FoldDelays : Type 0
FoldDelays =
    (changes : List Change) → Fitting changes → (number place : ℕ) (message : Message) (held : Place)
    → message_of (queue_of changes).messages number ≡ Some message → slice_get message.places place ≡ Some held
    → held.held ≡ true → held.delayed ≡ list_any (delays_with message.accept number place) changes

-- the place is told of as delayed
abbrev pub is_delayed : PlaceStep → Bool
is_delayed (made.Left way) = false
is_delayed made.Delayed = true

abbrev pub tells_of : ℕ → List (ℕ × PlaceStep) → Bool
tells_of place steps = list_any (λ one. one.0 == place && is_delayed one.1) steps

-- An outcome tells of a place as delayed exactly if it puts it off when it is late, and not so late that it fails, its
-- sender asked to be told, and no change before has put it off so: once, that is.
abbrev pub DelayIsTold : Type 0
DelayIsTold =
    (changes : List Change) → Fitting changes → (outcome : OutcomeFields) (message : Message)
    → FitsQueue (queue_of changes) (Outcome outcome)
    → message_of (queue_of changes).messages outcome.message ≡ Some message → (place : ℕ)
    → tells_of place (place_steps (queue_of changes) (Outcome outcome))
    ≡ (waits_in place outcome.rulings
    && (not (nat_le (message.accept.at + patience) outcome.at)
    && (is_delay outcome.version message.accept outcome.at place
    && not (list_any (delays_with message.accept outcome.message place) changes))))

-- Outcomes of later versions than the first report alike.
abbrev pub LaterReportAlike : Type 0
LaterReportAlike =
    (version : Version) → reports_delay version ≡ true → (message : Message) (at : ℕ) (ruling : Ruling)
    → due_report_at version message at ruling ≡ due_report_at WithDelay message at ruling
