-- The queue that a list of changes leaves may be stored.
use Rattle.std.proofs.Common.{◌≡◌, ◌⊎◌, inl, inr, ℕ, zero, suc, ◌+◌, ◌<◌, ◌≤◌, ◌^◌, ◌==◌, min, Bool, true, false, ◌||◌, if◌then◌else◌, List, [], ◌∷◌, ◌++◌, fold, length, map, slice_get, slice_set, Option, None, Some, MatchOption, refl, sym, subst, ap, ◌∙◌, arith, append-nil}
use Rattle.std.specs.List.{AllByRecursion, list_any}
use Rattle.std.specs.Option.{option_map_or}
use Rattle.std.proofs.lemmas.Bool.{false≢true, cond-true, cond-false, cases_eq, eq-eqb, ne_eqb}
use Rattle.relay_envelope.specs.declared.envelope.Recipient.{Recipient}
use Rattle.relay_envelope.proofs.Theorems.{reverse_path_is_forward}
use Rattle.relay_book.specs.declared.version.Version.{Version}
use Rattle.relay_book.specs.declared.change.Accept.{Accept as AcceptFields}
use Rattle.relay_book.specs.declared.change.Outcome.{Outcome as OutcomeFields}
use Rattle.relay_book.specs.declared.change.Ruling.{Ruling}
use Rattle.relay_book.specs.declared.change.Change.{Change}
use Rattle.relay_book.specs.declared.change.Change.TheVariants.{Accept, Outcome}
use Rattle.relay_book.specs.declared.fate.Fate.{Fate}
use Rattle.relay_book.specs.declared.fate.Fate.TheVariants.{Waits, Late, Failed, Relayed, Removed}
use Rattle.relay_book.specs.declared.due_report.DueReport.{DueReport}
use Rattle.relay_book.specs.declared.message.Message.{Message}
use Rattle.relay_book.specs.declared.message.Place.{Place}
use Rattle.relay_book.specs.Book.{Rise}
use Rattle.relay_book.specs.DueMoment.{wait_after}
use Rattle.relay_book.specs.DueReport.{due_for, fate_of}
use Rattle.relay_book.specs.Record.{IsAccept, IsOutcome}
use Rattle.relay_book.specs.Queue.{Queue, FitsFrom, FitsMessage, accepted, empty_queue, held_place, is_held, left_place, message_after, message_of, place_after, place_ruled, places_after, places_ruled, report_of, reported, ruled, step, tells_delay, waiting_place}
use Rattle.relay_book.specs.Snapshot.{IsPlace, IsQueue, IsQueued}
use Rattle.relay_book.specs.StandsFor.{FoundIsQueued, ListIsQueue, StepIsQueue}
use Rattle.relay_book.proofs.PlaceLemmas.{none_some, ruled_length, some_is}
use Rattle.relay_book.proofs.CustodyLemmas.{not_null}
use Rattle.relay_book.proofs.EntryLemmas.{rise_joined, rise_more, rise_ruled}
use Rattle.relay_book.proofs.StoredLemmas.{not_null_text, report_is_accept}

wait_short : (laters : ℕ) → wait_after laters ≤ 14400
wait_short laters = omega arith

left_is_place : IsPlace left_place
left_is_place = record { laters = omega arith; due = omega arith; left = λ is. (refl, refl, refl) }

held_is_place : (laters : ℕ) (delayed : Bool) (due : ℕ) → laters ≤ 4 → due < 2 ^ 64 → IsPlace (held_place laters delayed due)
held_is_place laters delayed due few small = record { laters = few; due = small; left = λ is. absurd (false≢true (sym is)) }

waiting_is_place : (at : ℕ) (place : Place) (due : Option DueReport) → at ≤ 253370764799 → IsPlace (waiting_place at place due)
waiting_is_place at place due moment =
    let wait = wait_short (min (place.laters + 1) 4) in
    held_is_place (min (place.laters + 1) 4) (tells_delay due || place.delayed) (at + wait_after (min (place.laters + 1) 4)) (omega arith) (omega (arith, wait, moment))

after_is_place : (at : ℕ) (place : Place) (fate : Fate) (due : Option DueReport) → at ≤ 253370764799 → IsPlace (place_after at place fate due)
after_is_place at place Waits due moment = waiting_is_place at place due moment
after_is_place at place Late due moment = waiting_is_place at place due moment
after_is_place at place Failed due moment = left_is_place
after_is_place at place (Relayed dsn) due moment = left_is_place
after_is_place at place (Removed withdrawal) due moment = left_is_place

all_set : (places : List Place) (n : ℕ) (place : Place) → AllByRecursion IsPlace places → IsPlace place → AllByRecursion IsPlace (slice_set places n place)
all_set [] n place all is = tt
all_set (first ∷ places) zero place all is = (is, all.1)
all_set (first ∷ places) (suc n) place all is = (all.0, all_set places n place all.1 is)

one_ruled : (version : Version) (accept : AcceptFields) (at : ℕ) (places : List Place) (ruling : Ruling) → at ≤ 253370764799 → AllByRecursion IsPlace places
    → AllByRecursion IsPlace (places_after version accept at places ruling)
one_ruled version accept at places ruling moment all = by (slice_get places ruling.place)
  where
    by : (o : Option Place) → AllByRecursion IsPlace (option_map_or (λ place. slice_set places ruling.place (place_ruled version accept at place ruling)) o places)
    by None = all
    by (Some place) =
        all_set places ruling.place (place_ruled version accept at place ruling) all
        (after_is_place at place (fate_of accept.at at ruling.verdict) (due_for version accept at place ruling) moment)

all_ruled : (version : Version) (accept : AcceptFields) (at : ℕ) (places : List Place) (rulings : List Ruling) → at ≤ 253370764799 → AllByRecursion IsPlace places
    → AllByRecursion IsPlace (places_ruled version accept at places rulings)
all_ruled version accept at places [] moment all = all
all_ruled version accept at places (ruling ∷ rulings) moment all =
    all_ruled version accept at (places_after version accept at places ruling) rulings moment (one_ruled version accept at places ruling moment all)

-- a message as it is accepted
new_places : (at : ℕ) (recipients : List Recipient) → at ≤ 253370764799 → AllByRecursion IsPlace (map (λ (r : Recipient). held_place 0 false at) recipients)
new_places at [] moment = tt
new_places at (recipient ∷ recipients) moment = (held_is_place 0 false at (omega arith) (omega (arith, moment)), new_places at recipients moment)

new_many : (at : ℕ) (recipients : List Recipient) → length (map (λ (r : Recipient). held_place 0 false at) recipients) ≡ length recipients
new_many at [] = refl
new_many at (recipient ∷ recipients) = ap suc (new_many at recipients)

new_held : (at : ℕ) (recipients : List Recipient) → 1 ≤ length recipients → list_any is_held (map (λ (r : Recipient). held_place 0 false at) recipients) ≡ true
new_held at [] some = absurd (omega (arith, some))
new_held at (recipient ∷ recipients) some = refl

accepted_queued : (number : ℕ) (accept : AcceptFields) → number ≤ 2 ^ 62 → IsAccept accept → IsQueued (number, accepted number accept)
accepted_queued number accept few valid = record {
  number_is = refl;
  number_fits = omega (arith, few);
  accept = valid;
  as_many = new_many accept.at accept.envelope.recipients;
  places = new_places accept.at accept.envelope.recipients valid.moment;
  some = new_held accept.at accept.envelope.recipients valid.envelope.some;
}

-- a message after an outcome
ruled_queued : (outcome : OutcomeFields) (entry : ℕ × Message) → IsOutcome outcome → IsQueued entry
    → list_any is_held (message_after outcome entry.1).places ≡ true → IsQueued (entry.0, message_after outcome entry.1)
ruled_queued outcome entry valid is some = record {
  number_is = is.number_is;
  number_fits = is.number_fits;
  accept = is.accept;
  as_many = ruled_length outcome.version entry.1.accept outcome.at entry.1.places outcome.rulings ∙ is.as_many;
  places = all_ruled outcome.version entry.1.accept outcome.at entry.1.places outcome.rulings valid.moment is.places;
  some = some;
}

both_queued : (entries more : List (ℕ × Message)) → AllByRecursion IsQueued entries → AllByRecursion IsQueued more → AllByRecursion IsQueued (entries ++ more)
both_queued [] more all rest = rest
both_queued (entry ∷ entries) more all rest = (all.0, both_queued entries more all.1 rest)

-- the message of a number
found_queued : (entries : List (ℕ × Message)) (number : ℕ) (message : Message) → AllByRecursion IsQueued entries → message_of entries number ≡ Some message
    → IsQueued (number, message)
found_queued [] number message all found = absurd (none_some message found)
found_queued (entry ∷ entries) number message all found = by (cases_eq entry.0 number) (found_queued entries number message all.1)
  where
    by : (entry.0 ≡ number) ⊎ (entry.0 ≡ number → ⊥) → (message_of entries number ≡ Some message → IsQueued (number, message)) → IsQueued (number, message)
    by (inl same) more =
        let it = some_is entry.1 message (sym (cond-true (entry.0 == number) (Some entry.1) (message_of entries number) (eq-eqb entry.0 number same)) ∙ found) in
        subst IsQueued (λ i. (same i, it i)) all.0
    by (inr off) more =
        more (sym (cond-false (entry.0 == number) (Some entry.1) (message_of entries number) (ne_eqb entry.0 number off)) ∙ found)

pub found_is_queued : FoundIsQueued
found_is_queued queue number message is found = found_queued queue.messages number message is.messages found

all_ruled_queued : (outcome : OutcomeFields) (entries : List (ℕ × Message)) → IsOutcome outcome → AllByRecursion IsQueued entries → AllByRecursion IsQueued (ruled outcome entries)
all_ruled_queued outcome [] valid all = tt
all_ruled_queued outcome (entry ∷ entries) valid all =
    by (entry.0 == outcome.message) (list_any is_held (message_after outcome entry.1).places) (ruled_queued outcome entry valid all.0) (all_ruled_queued outcome entries valid all.1)
  where
    by : (here held : Bool) → (held ≡ true → IsQueued (entry.0, message_after outcome entry.1)) → AllByRecursion IsQueued (ruled outcome entries)
        → AllByRecursion IsQueued (if here then (if held then (entry.0, message_after outcome entry.1) ∷ [] else []) ++ entries else entry ∷ ruled outcome entries)
    by true true one rest = (one refl, all.1)
    by true false one rest = all.1
    by false held one rest = (all.0, rest)

reported_queued : (number : ℕ) (outcome : OutcomeFields) (entries : List (ℕ × Message)) (message : Option Message) → number ≤ 2 ^ 62 → IsOutcome outcome
    → MatchOption message ⊥ (λ message. FitsMessage message outcome) → AllByRecursion IsQueued entries → message_of entries outcome.message ≡ message
    → (report : List ℕ) → outcome.report ≡ report → AllByRecursion IsQueued (reported number outcome report message)
reported_queued number outcome entries message few valid fits all found [] is = tt
reported_queued number outcome entries None few valid fits all found (octet ∷ rest) is = tt
reported_queued number outcome entries (Some message) few valid fits all found (octet ∷ rest) is =
    let path = not_null message outcome octet rest fits is in
    let accept = (found_queued entries outcome.message message all found).accept in (
      accepted_queued number (report_of message.accept outcome) few
          (report_is_accept message.accept outcome valid (reverse_path_is_forward message.accept.envelope.reverse_path accept.envelope.reverse_path (not_null_text message.accept.envelope.reverse_path path))),
      tt,
    )

-- numbers rise after a report too
rise_reported : (number : ℕ) (outcome : OutcomeFields) (entries : List (ℕ × Message)) (message : Option Message) (report : List ℕ) → Rise 1 number entries
    → Rise 1 (number + 1) (entries ++ reported number outcome report message)
rise_reported number outcome entries message [] rise = rise_none
  where
    rise_none : Rise 1 (number + 1) (entries ++ [])
    rise_none = subst (λ (es : List (ℕ × Message)). Rise 1 (number + 1) es) (sym (append-nil entries)) (rise_more 1 number entries rise)
rise_reported number outcome entries None (octet ∷ report) rise =
    subst (λ (es : List (ℕ × Message)). Rise 1 (number + 1) es) (sym (append-nil entries)) (rise_more 1 number entries rise)
rise_reported number outcome entries (Some message) (octet ∷ report) rise = rise_joined 1 number entries (accepted number (report_of message.accept outcome)) rise

pub step_is_queue : StepIsQueue
step_is_queue queue (Accept accept) fits is = record {
  next = let few = fits.0 in omega (arith, few);
  rise = rise_joined 1 queue.next queue.messages (accepted queue.next accept) is.rise;
  messages = both_queued queue.messages ((queue.next, accepted queue.next accept) ∷ []) is.messages (accepted_queued queue.next accept fits.0 fits.1, tt);
}
step_is_queue queue (Outcome outcome) fits is = record {
  next = let few = fits.0 in omega (arith, few);
  rise = rise_reported queue.next outcome (ruled outcome queue.messages) (message_of queue.messages outcome.message) outcome.report
      (rise_ruled outcome 1 queue.next queue.messages is.rise);
  messages = both_queued (ruled outcome queue.messages) (reported queue.next outcome outcome.report (message_of queue.messages outcome.message))
      (all_ruled_queued outcome queue.messages fits.2 is.messages)
      (reported_queued queue.next outcome queue.messages (message_of queue.messages outcome.message) fits.0 fits.2 fits.1 is.messages refl outcome.report refl);
}

empty_is_queue : IsQueue empty_queue
empty_is_queue = record { next = omega arith; rise = omega arith; messages = tt }

all_are_queues : (queue : Queue) (changes : List Change) → FitsFrom queue changes → IsQueue queue → IsQueue (fold step queue changes)
all_are_queues queue [] fits is = is
all_are_queues queue (change ∷ changes) fits is = all_are_queues (step queue change) changes fits.1 (step_is_queue queue change fits.0 is)

pub list_is_queue : ListIsQueue
list_is_queue changes fits = all_are_queues empty_queue changes fits empty_is_queue
