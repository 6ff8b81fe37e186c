-- The queue that a list of changes leaves: a fold of steps. What fits a queue is judged on the queue alone.
use Rattle.std.specs.Prelude.{◌≡◌, ◌↔◌, ℕ, suc, ◌+◌, ◌≤◌, ◌^◌, ◌==◌, nat_le, min, fold, Bool, true, false, ◌&&◌, ◌||◌}
use Rattle.std.specs.Prelude.{List, [], ◌∷◌, ◌++◌, map, slice_get, slice_set, codes, Option, Some, None, is_some}
use Rattle.std.specs.Prelude.{option_and_then, MatchOption, if◌then◌else◌}
use Rattle.std.specs.List.{flat_map, AllByRecursion, list_any}
use Rattle.std.specs.Option.{option_map_or}
use Rattle.relay_envelope.specs.declared.envelope.Recipient.{Recipient}
use Rattle.relay_envelope.specs.declared.envelope.Envelope.{Envelope}
use Rattle.relay_book.specs.declared.version.Version.{Version}
use Rattle.relay_book.specs.declared.change.Accept.{Accept as AcceptFields}
use Rattle.relay_book.specs.declared.change.Outcome.{Outcome as OutcomeFields}
use Rattle.relay_book.specs.declared.change.Ruling.{Ruling}
use Rattle.relay_book.specs.declared.change.Verdict.{Verdict}
use Rattle.relay_book.specs.declared.change.Verdict.TheVariants.{Taken, Refused, Later, CantSend, NoRoute, Withdrawn}
use Rattle.relay_book.specs.declared.change.Change.{Change}
use Rattle.relay_book.specs.declared.change.Change.TheVariants.{Accept, Outcome}
use Rattle.relay_book.specs.declared.message.Place.{Place}
use Rattle.relay_book.specs.declared.message.Message.{Message}
use Rattle.relay_book.specs.declared.fate.Fate.{Fate}
use Rattle.relay_book.specs.declared.fate.Fate.TheVariants.{Waits, Late, Failed, Relayed, Removed}
use Rattle.relay_book.specs.declared.due_report.DueReport.{DueReport}
use Rattle.relay_book.specs.declared.due_report.DueReport.TheVariants.{OfFailure, OfRelay, OfDelay}
use Rattle.relay_book.specs.DueReport.{fate_of, due_for}
use Rattle.relay_book.specs.DueMoment.{wait_after}
use Rattle.relay_book.specs.Record.{IsAccept, IsOutcome}

-- what is queued: the next number, and the messages with a held place by their numbers
pub record Queue : Type 0 where
  pub next : ℕ
  pub messages : List (ℕ × Message)

-- a place that left
abbrev pub left_place : Place
left_place = record { held = false; laters = 0; delayed = false; due = 0 }

-- a place that is due at a time, after as many Later verdicts, of which four and more are one, and that was reported as
-- delayed or not
abbrev pub held_place : ℕ → Bool → ℕ → Place
held_place laters delayed due = record { held = true; laters = laters; delayed = delayed; due = due }

-- a report tells of a delay
abbrev pub tells_delay : Option DueReport → Bool
tells_delay None = false
tells_delay (Some OfFailure) = false
tells_delay (Some OfRelay) = false
tells_delay (Some OfDelay) = true

-- a place after a Later verdict, by which this report was due
abbrev pub waiting_place : ℕ → Place → Option DueReport → Place
waiting_place at place due =
    held_place (min (place.laters + 1) 4) (tells_delay due || place.delayed)
    (at + wait_after (min (place.laters + 1) 4))

-- a place after a verdict, by what it makes of the place and by the report that was due
abbrev pub place_after : ℕ → Place → Fate → Option DueReport → Place
place_after at place Waits due = waiting_place at place due
place_after at place Late due = waiting_place at place due
place_after at place Failed due = left_place
place_after at place (Relayed dsn) due = left_place
place_after at place (Removed withdrawal) due = left_place

-- the same, of a message
abbrev pub place_ruled : Version → AcceptFields → ℕ → Place → Ruling → Place
place_ruled version accept at place ruling =
    place_after at place (fate_of accept.at at ruling.verdict) (due_for version accept at place ruling)

-- the places of a message after a verdict
abbrev pub places_after : Version → AcceptFields → ℕ → List Place → Ruling → List Place
places_after version accept at places ruling =
    option_map_or (λ place. slice_set places ruling.place (place_ruled version accept at place ruling))
    (slice_get places ruling.place) places

-- after all verdicts of an outcome
abbrev pub places_ruled : Version → AcceptFields → ℕ → List Place → List Ruling → List Place
places_ruled version accept at places rulings = fold (places_after version accept at) places rulings

abbrev pub is_held : Place → Bool
is_held place = place.held

abbrev pub message_after : OutcomeFields → Message → Message
message_after outcome message =
    record message {
      places = places_ruled outcome.version message.accept outcome.at message.places outcome.rulings;
    }

-- a message that has no held place isn't queued
abbrev pub if_held : ℕ → Message → List (ℕ × Message)
if_held number message = if list_any is_held message.places then (number, message) ∷ [] else []

-- the messages after an outcome
abbrev pub ruled : OutcomeFields → List (ℕ × Message) → List (ℕ × Message)
ruled outcome [] = []
ruled outcome (entry ∷ entries) =
    if entry.0 == outcome.message then if_held entry.0 (message_after outcome entry.1) ++ entries
    else entry ∷ ruled outcome entries

-- a message as it is accepted
abbrev pub accepted : ℕ → AcceptFields → Message
accepted number accept = record {
  number = number;
  accept = accept;
  places = map (λ recipient. held_place 0 false accept.at) accept.envelope.recipients;
}

-- a report: from the null reverse path to the reverse path of its message, without parameters
abbrev pub report_recipient : List ℕ → Recipient
report_recipient path = record { path = path; notify = None; orcpt = None }

abbrev pub report_envelope : List ℕ → Envelope
report_envelope path =
    record { reverse_path = codes "<>"; ret = None; envid = None; recipients = report_recipient path ∷ [] }

abbrev pub report_of : AcceptFields → OutcomeFields → AcceptFields
report_of accept outcome = record {
  at = outcome.at;
  envelope = report_envelope accept.envelope.reverse_path;
  stored_text = outcome.report;
}

-- the message of a number
abbrev pub message_of : List (ℕ × Message) → ℕ → Option Message
message_of [] number = None
message_of (entry ∷ entries) number = if entry.0 == number then Some entry.1 else message_of entries number

-- the report that an outcome queues, if it has one
abbrev pub reported : ℕ → OutcomeFields → List ℕ → Option Message → List (ℕ × Message)
reported number outcome [] message = []
reported number outcome (octet ∷ report) None = []
reported number outcome (octet ∷ report) (Some message) =
    (number, accepted number (report_of message.accept outcome)) ∷ []

-- one change more
abbrev pub step : Queue → Change → Queue
step queue (Accept accept) = record {
  next = queue.next + 1;
  messages = queue.messages ++ (queue.next, accepted queue.next accept) ∷ [];
}
step queue (Outcome outcome) = record {
  next = queue.next + 1;
  messages = ruled outcome queue.messages
      ++ reported queue.next outcome outcome.report (message_of queue.messages outcome.message);
}

abbrev pub empty_queue : Queue
empty_queue = record { next = 1; messages = [] }

-- the queue that a list of changes leaves
abbrev pub queue_of : List Change → Queue
queue_of changes = fold step empty_queue changes

-- the place is there, and held
abbrev pub holds_at : List Place → ℕ → Bool
holds_at places n = option_map_or is_held (slice_get places n) false

-- the places of the verdicts rise, and each is held
abbrev pub AreRulings : List Place → ℕ → List Ruling → Type 0
AreRulings places least [] = Unit {0}
AreRulings places least (ruling ∷ rulings) =
    (least ≤ ruling.place) × (holds_at places ruling.place ≡ true)
    × AreRulings places (ruling.place + 1) rulings

-- which report is due of a place of a message by a verdict at a time
abbrev pub due_report_at : Version → Message → ℕ → Ruling → Option DueReport
due_report_at version message at ruling =
    option_and_then (λ place. due_for version message.accept at place ruling)
    (slice_get message.places ruling.place)

-- one is due
abbrev pub reports_at : Version → Message → ℕ → Ruling → Bool
reports_at version message at ruling = is_some (due_report_at version message at ruling)

-- a verdict without an attempt: the place has no hop, or the postmaster has ended it
abbrev pub is_without_hop : Verdict → Bool
is_without_hop (Taken dsn) = false
is_without_hop (Refused code text) = false
is_without_hop Later = false
is_without_hop CantSend = false
is_without_hop NoRoute = true
is_without_hop (Withdrawn withdrawal) = true

-- no attempt was made for these
abbrev pub AllWithoutHop : List Ruling → Type 0
AllWithoutHop rulings = AllByRecursion (λ ruling. is_without_hop ruling.verdict ≡ true) rulings

-- an outcome fits a message: a hop's name is empty exactly if no attempt was made, a report exactly if none is due
pub record FitsMessage (message : Message) (outcome : OutcomeFields) : Type 0 where
  pub rulings : AreRulings message.places 0 outcome.rulings
  pub hop : (outcome.hop ≡ []) ↔ AllWithoutHop outcome.rulings
  pub report : (outcome.report ≡ [])
      ↔ (list_any (reports_at outcome.version message outcome.at) outcome.rulings ≡ false)

-- profile: the greatest number of a change
abbrev pub last_number : ℕ
last_number = 2 ^ 62

-- a change fits a queue, and its number is at most the greatest
abbrev pub FitsQueue : Queue → Change → Type 0
FitsQueue queue (Accept accept) = (queue.next ≤ last_number) × IsAccept accept
FitsQueue queue (Outcome outcome) =
    (queue.next ≤ last_number)
    × MatchOption (message_of queue.messages outcome.message) ⊥ (λ message. FitsMessage message outcome)
    × IsOutcome outcome

-- each change fits what the ones before it left
abbrev pub FitsFrom : Queue → List Change → Type 0
FitsFrom queue [] = Unit {0}
FitsFrom queue (change ∷ changes) = FitsQueue queue change × FitsFrom (step queue change) changes

abbrev pub Fitting : List Change → Type 0
Fitting changes = FitsFrom empty_queue changes

-- the places of a message that pass a test, in order
abbrev pub marks_from : (Place → Bool) → ℕ → ℕ → List Place → List (ℕ × ℕ)
marks_from test number n [] = []
marks_from test number n (place ∷ places) =
    (if test place then (number, n) ∷ [] else []) ++ marks_from test number (suc n) places

abbrev pub is_due_at : ℕ → Place → Bool
is_due_at now place = place.held && nat_le place.due now

abbrev pub marks_of_entry : (Place → Bool) → ℕ × Message → List (ℕ × ℕ)
marks_of_entry test entry = marks_from test entry.0 0 entry.1.places

-- all held places, in order; those that are due
abbrev pub held_of : Queue → List (ℕ × ℕ)
held_of queue = flat_map (marks_of_entry is_held) queue.messages

abbrev pub due_of : ℕ → Queue → List (ℕ × ℕ)
due_of now queue = flat_map (marks_of_entry (is_due_at now)) queue.messages
