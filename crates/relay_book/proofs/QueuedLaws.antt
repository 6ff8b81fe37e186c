-- A queued message has a held place.
use Rattle.std.proofs.Common.{◌≡◌, ℕ, suc, ◌≤◌, ◌==◌, Bool, true, false, ◌||◌, if◌then◌else◌}
use Rattle.std.proofs.Common.{fold, List, [], ◌∷◌, ◌++◌, map, length, Option, None, Some}
use Rattle.std.proofs.Common.{refl, subst, ap, ◌∙◌, arith}
use Rattle.std.specs.Option.{option_map_or}
use Rattle.std.specs.List.{AllByRecursion, list_any}
use Rattle.std.proofs.lemmas.Bool.{false≢true}
use Rattle.relay_envelope.specs.declared.envelope.Recipient.{Recipient}
use Rattle.relay_book.specs.declared.change.Outcome.{Outcome as OutcomeFields}
use Rattle.relay_book.specs.declared.change.Change.{Change}
use Rattle.relay_book.specs.declared.change.Change.TheVariants.{Accept, Outcome}
use Rattle.relay_book.specs.declared.message.Place.{Place}
use Rattle.relay_book.specs.declared.message.Message.{Message}
use Rattle.relay_book.specs.Queue.{Queue, FitsFrom, FitsQueue, empty_queue, held_place, holds_at}
use Rattle.relay_book.specs.Queue.{if_held, is_held, message_after, message_of, queue_of}
use Rattle.relay_book.specs.Queue.{reported, ruled, step}
use Rattle.relay_book.specs.HeldLaw.{QueuedIsHeld}
use Rattle.relay_book.proofs.PlaceLemmas.{none_some, some_is}
use Rattle.relay_book.proofs.MarkLaws.{fold_finds}

abbrev HasHeld : Message → Type 0
HasHeld message = list_any is_held message.places ≡ true

-- each of the messages has a held place
abbrev AreAllHeld : List (ℕ × Message) → Type 0
AreAllHeld entries = AllByRecursion (λ (entry : ℕ × Message). HasHeld entry.1) entries

all_joined : (entries others : List (ℕ × Message)) → AreAllHeld entries → AreAllHeld others
    → AreAllHeld (entries ++ others)
all_joined [] others all more = more
all_joined (entry ∷ entries) others all more = (all.0, all_joined entries others all.1 more)

one_held : (number : ℕ) (message : Message) → AreAllHeld (if_held number message)
one_held number message = by (list_any is_held message.places) refl
  where
    by : (test : Bool) → list_any is_held message.places ≡ test
        → AreAllHeld (if test then (number, message) ∷ [] else [])
    by true is = (is, tt)
    by false is = tt

all_ruled : (outcome : OutcomeFields) (entries : List (ℕ × Message)) → AreAllHeld entries
    → AreAllHeld (ruled outcome entries)
all_ruled outcome [] all = tt
all_ruled outcome (entry ∷ entries) all =
    by (entry.0 == outcome.message) (all_ruled outcome entries all.1)
  where
    after : Message
    after = message_after outcome entry.1

    by : (test : Bool) → AreAllHeld (ruled outcome entries)
        → AreAllHeld
        (if test then if_held entry.0 after ++ entries else entry ∷ ruled outcome entries)
    by true rest = all_joined (if_held entry.0 after) entries (one_held entry.0 after) all.1
    by false rest = (all.0, rest)

report_held : (number : ℕ) (outcome : OutcomeFields) (report : List ℕ) (message : Option Message)
    → AreAllHeld (reported number outcome report message)
report_held number outcome [] message = tt
report_held number outcome (octet ∷ report) None = tt
report_held number outcome (octet ∷ report) (Some message) = (refl, tt)

new_held : (at : ℕ) (recipients : List Recipient) → 1 ≤ length recipients
    → list_any is_held (map (λ recipient. held_place 0 false at) recipients) ≡ true
new_held at [] some = absurd (omega (arith, some))
new_held at (recipient ∷ recipients) some = refl

all_more : (queue : Queue) (change : Change) → FitsQueue queue change → AreAllHeld queue.messages
    → AreAllHeld (step queue change).messages
all_more queue (Accept accept) fits all =
    let held = new_held accept.at accept.envelope.recipients fits.1.envelope.some in
    all_joined queue.messages _ all (held, tt)
all_more queue (Outcome outcome) fits all =
    all_joined (ruled outcome queue.messages) _ (all_ruled outcome queue.messages all)
    (report_held queue.next outcome outcome.report (message_of queue.messages outcome.message))

all_held : (queue : Queue) (changes : List Change) → FitsFrom queue changes
    → AreAllHeld queue.messages → AreAllHeld (fold step queue changes).messages
all_held queue [] fits all = all
all_held queue (change ∷ changes) fits all =
    all_held (step queue change) changes fits.1 (all_more queue change fits.0 all)

found_held : (entries : List (ℕ × Message)) (number : ℕ) (message : Message) → AreAllHeld entries
    → message_of entries number ≡ Some message → HasHeld message
found_held [] number message all is = absurd (none_some message is)
found_held (entry ∷ entries) number message all is =
    by (found_held entries number message all.1) (entry.0 == number) is
  where
    by : (message_of entries number ≡ Some message → HasHeld message) → (test : Bool)
        → (if test then Some entry.1 else message_of entries number) ≡ Some message
        → HasHeld message
    by rest true is = subst (λ (m : Message). HasHeld m) (some_is entry.1 message is) all.0
    by rest false is = rest is

held_at : (places : List Place) → list_any is_held places ≡ true
    → (place : ℕ) × (holds_at places place ≡ true)
held_at [] any = absurd (false≢true any)
held_at (place ∷ places) any = by (held_at places) (is_held place) refl any
  where
    by : (list_any is_held places ≡ true → (n : ℕ) × (holds_at places n ≡ true)) → (test : Bool)
        → is_held place ≡ test → (test || list_any is_held places) ≡ true
        → (n : ℕ) × (holds_at (place ∷ places) n ≡ true)
    by more true is any = (0, is)
    by more false is any = let rest = more any in (suc rest.0, rest.1)

pub queued_is_held : QueuedIsHeld
queued_is_held changes fitting number message is =
    let entries = (queue_of changes).messages in
    let all = all_held empty_queue changes fitting tt in
    let one = held_at message.places (found_held entries number message all is) in
    let holds = ap
    (λ (o : Option Message). option_map_or (λ message. holds_at message.places one.0) o false) is
    ∙ one.1 in
    (one.0, one.1, (fold_finds changes fitting number one.0).0 holds)
