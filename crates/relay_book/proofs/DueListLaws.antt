-- What is due, by the list of changes.
use Rattle.std.proofs.Common.{◌≡◌, ℕ, suc, ◌+◌, ◌==◌, nat_le, Bool, true, false, ◌&&◌}
use Rattle.std.proofs.Common.{if◌then◌else◌, List, [], ◌∷◌, ◌++◌, flat_map, filter, slice_get}
use Rattle.std.proofs.Common.{Option, None, Some, option_and_then, option_map}
use Rattle.std.proofs.Common.{refl, sym, ap, ◌∙◌, arith}
use Rattle.std.specs.Option.{option_map_or}
use Rattle.std.specs.List.{AllByRecursion}
use Rattle.std.proofs.lemmas.Bool.{cond-true, cond-false, eq-eqb, ne_eqb, false≢true}
use Rattle.std.proofs.lemmas.List.Elements.{filter-append}
use Rattle.relay_book.specs.declared.change.Accept.{Accept as AcceptFields}
use Rattle.relay_book.specs.declared.change.Change.{Change}
use Rattle.relay_book.specs.declared.message.Place.{Place}
use Rattle.relay_book.specs.declared.message.Message.{Message}
use Rattle.relay_book.specs.DueMoment.{due_moment_of, laters_of}
use Rattle.relay_book.specs.DueLaw.{QueueListsDue, QueueTellsDue, due_at, due_by, due_if_held}
use Rattle.relay_book.specs.DueLaw.{due_in, is_due_by}
use Rattle.relay_book.specs.HeldLaw.{holds_place}
use Rattle.relay_book.specs.Marks.{Held}
use Rattle.relay_book.specs.Queue.{Queue, Fitting, holds_at, is_due_at, is_held, marks_from}
use Rattle.relay_book.specs.Queue.{marks_of_entry, message_of, queue_of}
use Rattle.relay_book.specs.Book.{Rise}
use Rattle.relay_book.proofs.EntryLemmas.{none_before}
use Rattle.relay_book.proofs.PlaceLemmas.{none_some, some_is}
use Rattle.relay_book.proofs.MarkLaws.{fold_finds, fold_knows, stand}
use Rattle.relay_book.proofs.TimeLaws.{fold_due}

-- a held place of a queued message is due when the list says
listed : (changes : List Change) → Fitting changes → (number place : ℕ) (message : Message)
    (held : Place) → message_of (queue_of changes).messages number ≡ Some message
    → slice_get message.places place ≡ Some held → held.held ≡ true
    → due_by changes number place ≡ Some held.due
listed changes fitting number place message held found got is =
    let laters = laters_of changes number place in
    ap (λ (o : Option AcceptFields). option_map (λ accept. due_moment_of accept.at laters) o)
    (fold_knows changes fitting number message found).accept_is
    ∙ ap (λ (n : ℕ). Some n) (sym (fold_due changes fitting number place message held found got is))

-- a place that the queue has due
record IsDueThen (queue : Queue) (number place moment : ℕ) : Type 0 where
  message : Message
  held : Place
  found : message_of queue.messages number ≡ Some message
  got : slice_get message.places place ≡ Some held
  is : held.held ≡ true
  due : held.due ≡ moment

due_then : (queue : Queue) (number place moment : ℕ) → due_at queue number place ≡ Some moment
    → IsDueThen queue number place moment
due_then queue number place moment due = by (message_of queue.messages number) refl due
  where
    last : (message : Message) (held : Place) → message_of queue.messages number ≡ Some message
        → slice_get message.places place ≡ Some held → (test : Bool) → held.held ≡ test
        → (if test then Some held.due else None) ≡ Some moment → IsDueThen queue number place moment
    last message held found got true is due = record {
      message = message;
      held = held;
      found = found;
      got = got;
      is = is;
      due = some_is held.due moment due;
    }
    last message held found got false is due = absurd (none_some moment due)

    more : (message : Message) → message_of queue.messages number ≡ Some message
        → (o : Option Place) → slice_get message.places place ≡ o
        → option_and_then due_if_held o ≡ Some moment → IsDueThen queue number place moment
    more message found None got due = absurd (none_some moment due)
    more message found (Some held) got due = last message held found got held.held refl due

    by : (o : Option Message) → message_of queue.messages number ≡ o
        → option_and_then (due_in place) o ≡ Some moment → IsDueThen queue number place moment
    by None found due = absurd (none_some moment due)
    by (Some message) found due = more message found (slice_get message.places place) refl due

-- a held place is due at some moment
held_then : (queue : Queue) (number place : ℕ) → holds_place queue number place ≡ true
    → (moment : ℕ) × (due_at queue number place ≡ Some moment)
held_then queue number place holds = by (message_of queue.messages number) refl holds
  where
    last : (held : Place) (test : Bool) → held.held ≡ test → test ≡ true
        → (moment : ℕ) × ((if test then Some held.due else None) ≡ Some moment)
    last held true is holds = (held.due, refl)
    last held false is holds = absurd (false≢true holds)

    more : (o : Option Place) → option_map_or is_held o false ≡ true
        → (moment : ℕ) × (option_and_then due_if_held o ≡ Some moment)
    more None holds = absurd (false≢true holds)
    more (Some held) holds = last held held.held refl holds

    by : (o : Option Message) → message_of queue.messages number ≡ o
        → option_map_or (λ message. holds_at message.places place) o false ≡ true
        → (moment : ℕ) × (due_at queue number place ≡ Some moment)
    by None found holds = absurd (false≢true holds)
    by (Some message) found holds =
        let some = more (slice_get message.places place) holds in
        (some.0, ap (λ (o : Option Message). option_and_then (due_in place) o) found ∙ some.1)

pub queue_tells_due : QueueTellsDue
queue_tells_due changes fitting number place moment = (there, back)
  where
    is_held_there : IsDueThen (queue_of changes) number place moment
        → holds_place (queue_of changes) number place ≡ true
    is_held_there due =
        ap (λ (o : Option Message). option_map_or (λ m. holds_at m.places place) o false) due.found
        ∙ ap (λ (o : Option Place). option_map_or is_held o false) due.got ∙ due.is

    there : due_at (queue_of changes) number place ≡ Some moment
        → Held changes number place × (due_by changes number place ≡ Some moment)
    there is =
        let due = due_then (queue_of changes) number place moment is in
        let same =
        listed changes fitting number place due.message due.held due.found due.got due.is in (
          (fold_finds changes fitting number place).0 (is_held_there due),
          same ∙ ap (λ (n : ℕ). Some n) due.due,
        )

    back : Held changes number place × (due_by changes number place ≡ Some moment)
        → due_at (queue_of changes) number place ≡ Some moment
    back is =
        let holds = (fold_finds changes fitting number place).1 is.0 in
        let some = held_then (queue_of changes) number place holds in
        let due = due_then (queue_of changes) number place some.0 some.1 in
        let same =
        listed changes fitting number place due.message due.held due.found due.got due.is in
        some.1 ∙ ap (λ (n : ℕ). Some n) (sym due.due) ∙ sym same ∙ is.1

-- what is true of each message that is found is true of each entry
each_found : (P : ℕ → Message → Type 0) (least next : ℕ) (entries : List (ℕ × Message))
    → Rise least next entries
    → ((number : ℕ) (message : Message) → message_of entries number ≡ Some message
    → P number message)
    → AllByRecursion (λ (entry : ℕ × Message). P entry.0 entry.1) entries
each_found P least next [] rise all = tt
each_found P least next (entry ∷ entries) rise all = (
  all entry.0 entry.1 (cond-true (entry.0 == entry.0) _ _ (eq-eqb entry.0 entry.0 refl)),
  each_found P (suc entry.0) next entries rise.1
      (λ number message is.
      let off = λ (same : entry.0 ≡ number). none_some message
      (sym (none_before (suc entry.0) next entries number rise.1 (omega (arith, same))) ∙ is) in
      all number message (cond-false (entry.0 == number) _ _ (ne_eqb entry.0 number off) ∙ is)),
)

-- a test of marks says of each held place whether it is due
abbrev TellsDue : (ℕ × ℕ → Bool) → ℕ → ℕ → ℕ → List Place → Type 0
TellsDue test now number n places =
    (i : ℕ) (place : Place) → slice_get places i ≡ Some place → place.held ≡ true
    → test (number, n + i) ≡ nat_le place.due now

due_marks : (test : ℕ × ℕ → Bool) (now number n : ℕ) (places : List Place)
    → TellsDue test now number n places
    → marks_from (is_due_at now) number n places ≡ filter test (marks_from is_held number n places)
due_marks test now number n [] tells = refl
due_marks test now number n (place ∷ places) tells =
    by place.held refl
    (due_marks test now number (suc n) places
    (λ i one got is.
    let on : suc n + i ≡ n + suc i = omega arith in
    ap (λ (k : ℕ). test (number, k)) on ∙ tells (suc i) one got is))
  where
    due : List (ℕ × ℕ)
    due = marks_from (is_due_at now) number (suc n) places

    held : List (ℕ × ℕ)
    held = marks_from is_held number (suc n) places

    if_due : (is_due : Bool) → test (number, n) ≡ is_due
        → marks_from (is_due_at now) number (suc n) places
        ≡ filter test (marks_from is_held number (suc n) places)
        → (if is_due then (number, n) ∷ [] else []) ++ due
        ≡ (if test (number, n) then (number, n) ∷ filter test held else filter test held)
    if_due true is rest =
        ap (λ (l : List (ℕ × ℕ)). (number, n) ∷ l) rest ∙ sym (cond-true (test (number, n)) _ _ is)
    if_due false is rest = rest ∙ sym (cond-false (test (number, n)) _ _ is)

    by : (is_held : Bool) → place.held ≡ is_held
        → marks_from (is_due_at now) number (suc n) places
        ≡ filter test held
        → (if is_held && nat_le place.due now then (number, n) ∷ [] else []) ++ due
        ≡ filter test ((if is_held then (number, n) ∷ [] else []) ++ held)
    by false is rest = rest
    by true is rest =
        let at : n + 0 ≡ n = omega arith in
        let same = ap (λ (k : ℕ). test (number, k)) (sym at) ∙ tells 0 place refl is in
        if_due (nat_le place.due now) same rest

due_marks_of : (test : ℕ × ℕ → Bool) (now : ℕ) (entries : List (ℕ × Message))
    → AllByRecursion (λ (entry : ℕ × Message). TellsDue test now entry.0 0 entry.1.places) entries
    → flat_map (marks_of_entry (is_due_at now)) entries
    ≡ filter test (flat_map (marks_of_entry is_held) entries)
due_marks_of test now [] all = refl
due_marks_of test now (entry ∷ entries) all =
    let first = due_marks test now entry.0 0 entry.1.places all.0 in
    let rest = due_marks_of test now entries all.1 in
    let held = flat_map (marks_of_entry is_held) entries in
    (λ i. first i ++ rest i)
    ∙ sym (filter-append test (marks_from is_held entry.0 0 entry.1.places) held)

pub queue_lists_due : QueueListsDue
queue_lists_due changes fitting now =
    let queue = queue_of changes in
    let rise = (stand changes fitting).knows.rise in
    due_marks_of (is_due_by changes now) now queue.messages
    (each_found (λ number message. TellsDue (is_due_by changes now) now number 0 message.places)
    0 queue.next queue.messages rise
    (λ number message found i place got is.
    let at : 0 + i ≡ i = omega arith in
    let by_list = listed changes fitting number i message place found got is in
    ap (λ (k : ℕ). is_due_by changes now (number, k)) at
    ∙ ap (λ (o : Option ℕ). option_map_or (λ due. nat_le due now) o false) by_list))
