-- What the fold tells of each place, change by change.
use Rattle.std.proofs.Common.{◌≡◌, ◌⊎◌, inl, inr, ℕ, zero, suc, ◌+◌, ◌<◌, Bool, true, false, ◌&&◌, ◌||◌, if◌then◌else◌, List, [], ◌∷◌, ◌++◌, map, length, slice_get, Option, None, Some, is_some, MatchOption, refl, sym, subst, ap, ◌∙◌, arith, Contains, option_and_then, append-nil}
use Rattle.std.specs.Option.{option_map_or}
use Rattle.std.specs.List.{list_any}
use Rattle.std.proofs.lemmas.Bool.{cases_eq, false≢true, and_parts, and_cases}
use Rattle.relay_envelope.specs.declared.envelope.Recipient.{Recipient}
use Rattle.relay_book.specs.declared.version.Version.{Version}
use Rattle.relay_book.specs.declared.message.Place.{Place}
use Rattle.relay_book.specs.declared.change.Accept.{Accept as AcceptFields}
use Rattle.relay_book.specs.declared.change.Outcome.{Outcome as OutcomeFields}
use Rattle.relay_book.specs.declared.change.Ruling.{Ruling}
use Rattle.relay_book.specs.declared.change.Change.{Change}
use Rattle.relay_book.specs.declared.change.Change.TheVariants.{Accept, Outcome}
use Rattle.relay_book.specs.declared.message.Message.{Message}
use Rattle.relay_book.specs.DueReport.{way_of, fate_of, due_for, due_report_of, report_of_fate}
use Rattle.relay_book.specs.Record.{is_null}
use Rattle.relay_book.specs.Queue.{Queue, FitsQueue, FitsMessage, step, held_place, holds_at, message_after, message_of, reported, report_of, reports_at, ruled, accepted}
use Rattle.relay_book.specs.declared.fate.Way.{Way}
use Rattle.relay_book.specs.Marks.{change_at, own_accept, report_for, message_at, Added, LeavesAt, Left}
use Rattle.relay_book.specs.Book.{Rise}
use Rattle.relay_book.proofs.PlaceLemmas.{none_some, some_is, stays, way_among, ruled_holds, ruled_way, way_ruled}
use Rattle.relay_book.proofs.EntryLemmas.{holds, none_after, message_below, joined_other, joined_here, rise_joined, rise_more, rise_ruled, ruled_other, ruled_same, ruled_comes}
use Rattle.relay_book.proofs.ChangeLemmas.{joined, last, last_joined, change_last, change_other, Back, message_other, message_last, own_from, added_was, leaves_before, leaves_still, leaves_was}

-- what the queue's messages are
pub record Knows (changes : List Change) (queue : Queue) : Type 0 where
  pub next : queue.next ≡ last changes
  pub back : Back changes
  pub rise : Rise 0 queue.next queue.messages
  pub accept : (number : ℕ) (message : Message) → message_of queue.messages number ≡ Some message → message_at changes number ≡ Some message.accept
  pub places : (number : ℕ) (message : Message) → message_of queue.messages number ≡ Some message → length message.places ≡ length message.accept.envelope.recipients
  pub number : (number : ℕ) (message : Message) → message_of queue.messages number ≡ Some message → message.number ≡ number

-- what the queue tells of each place
pub record Tells (changes : List Change) (entries : List (ℕ × Message)) : Type 0 where
  pub held : (number place : ℕ) (way : Way) → holds entries number place ≡ true → Left changes number place way → ⊥
  pub left : (number place : ℕ) → Added changes number place → holds entries number place ≡ false → (way : Way) × Left changes number place way
  pub one : (number place : ℕ) (way other : Way) → Left changes number place way → Left changes number place other → way ≡ other

-- what one change more does
pub record Moves (changes : List Change) (change : Change) (old new : List (ℕ × Message)) : Type 0 where
  pub kept : (number place : ℕ) → (number ≡ last changes → ⊥) → holds new number place ≡ true → holds old number place ≡ true
  pub stayed : (number place : ℕ) (way : Way) → holds new number place ≡ true → LeavesAt (joined changes change) (last changes) number place way → ⊥
  pub went : (number place : ℕ) → (number ≡ last changes → ⊥) → Added changes number place → holds new number place ≡ false
      → (holds old number place ≡ false) ⊎ ((way : Way) × LeavesAt (joined changes change) (last changes) number place way)
  pub came : (place : ℕ) → Added (joined changes change) (last changes) place → holds new (last changes) place ≡ true
  pub one : (number place : ℕ) (way other : Way) → LeavesAt (joined changes change) (last changes) number place way
      → LeavesAt (joined changes change) (last changes) number place other → way ≡ other
  pub was : (number place : ℕ) (way : Way) → LeavesAt (joined changes change) (last changes) number place way → holds old number place ≡ true

-- what left was there before, or it leaves now
old_or_now : (changes : List Change) (change : Change) (number place : ℕ) (way : Way) → Back changes → Left (joined changes change) number place way
    → LeavesAt (joined changes change) (last changes) number place way ⊎ Left changes number place way
old_or_now changes change number place way back left = by (cases_eq left.0 (last changes))
  where
    by : (left.0 ≡ last changes) ⊎ (left.0 ≡ last changes → ⊥) → LeavesAt (joined changes change) (last changes) number place way ⊎ Left changes number place way
    by (inl same) = inl (subst (λ at. LeavesAt (joined changes change) at number place way) same left.1)
    by (inr off) = inr (left.0, leaves_was changes change left.0 number place way back off left.1)

left_before : (changes : List Change) (number place : ℕ) (way : Way) → Left changes number place way → number ≡ last changes → ⊥
left_before changes number place way left = (leaves_before changes left.0 number place way left.1).0

pub tells_more : (changes : List Change) (change : Change) (old new : List (ℕ × Message)) → Back changes → Tells changes old → Moves changes change old new → Tells (joined changes change) new
tells_more changes change old new back tells moves = record { held = held; left = left; one = one }
  where
    held : (number place : ℕ) (way : Way) → holds new number place ≡ true → Left (joined changes change) number place way → ⊥
    held number place way holds_new gone = by (old_or_now changes change number place way back gone)
      where
        by : LeavesAt (joined changes change) (last changes) number place way ⊎ Left changes number place way → ⊥
        by (inl now) = moves.stayed number place way holds_new now
        by (inr before) =
            tells.held number place way (moves.kept number place (left_before changes number place way before) holds_new) before

    left : (number place : ℕ) → Added (joined changes change) number place → holds new number place ≡ false → (way : Way) × Left (joined changes change) number place way
    left number place added out = by (cases_eq number (last changes))
      where
        off_list : (number ≡ last changes → ⊥) → (holds old number place ≡ false) ⊎ ((way : Way) × LeavesAt (joined changes change) (last changes) number place way)
            → (way : Way) × Left (joined changes change) number place way
        off_list off (inl none) =
            let before = tells.left number place (added_was changes change number place back off added) none in
            (before.0, (before.1.0, leaves_still changes change before.1.0 number place before.0 back before.1.1))
        off_list off (inr now) = (now.0, (last changes, now.1))

        by : (number ≡ last changes) ⊎ (number ≡ last changes → ⊥) → (way : Way) × Left (joined changes change) number place way
        by (inl same) =
            let here = moves.came place (subst (λ n. Added (joined changes change) n place) same added) in
            absurd (false≢true (sym (subst (λ n. holds new n place ≡ false) same out) ∙ here))
        by (inr off) = off_list off (moves.went number place off (added_was changes change number place back off added) out)

    one : (number place : ℕ) (way other : Way) → Left (joined changes change) number place way → Left (joined changes change) number place other → way ≡ other
    one number place way other first second = by (old_or_now changes change number place way back first) (old_or_now changes change number place other back second)
      where
        by : LeavesAt (joined changes change) (last changes) number place way ⊎ Left changes number place way
            → LeavesAt (joined changes change) (last changes) number place other ⊎ Left changes number place other → way ≡ other
        by (inl now) (inl too) = moves.one number place way other now too
        by (inl now) (inr before) = absurd (tells.held number place other (moves.was number place way now) before)
        by (inr before) (inl now) = absurd (tells.held number place way (moves.was number place other now) before)
        by (inr before) (inr too) = tells.one number place way other before too

-- an accept
accept_at : (entries : List (ℕ × Message)) (number place : ℕ) → Option Message → Bool
accept_at entries number place o = option_map_or (λ message. holds_at message.places place) o false

is_outcome : Change → Bool
is_outcome (Accept accept) = false
is_outcome (Outcome outcome) = true

outcome_or : OutcomeFields → Change → OutcomeFields
outcome_or none (Accept accept) = none
outcome_or none (Outcome outcome) = outcome

no_outcome : (accept : AcceptFields) (outcome : OutcomeFields) → Some (Accept accept) ≡ Some (Outcome outcome) → ⊥
unfolding is_outcome
no_outcome accept outcome e = false≢true (ap is_outcome (some_is (Accept accept) (Outcome outcome) e))

one_outcome : (outcome other : OutcomeFields) → Some (Outcome outcome) ≡ Some (Outcome other) → outcome ≡ other
unfolding outcome_or
one_outcome outcome other e = ap (outcome_or outcome) (some_is (Outcome outcome) (Outcome other) e)

all_held : (at : ℕ) (recipients : List Recipient) (place : ℕ) → place < length recipients → holds_at (map (λ recipient. held_place 0 false at) recipients) place ≡ true
all_held at [] place below = absurd (omega (arith, below))
all_held at (recipient ∷ recipients) zero below = refl
all_held at (recipient ∷ recipients) (suc place) below = all_held at recipients place (omega (arith, below))

all_placed : (at : ℕ) (recipients : List Recipient) → length (map (λ recipient. held_place 0 false at) recipients) ≡ length recipients
all_placed at [] = refl
all_placed at (recipient ∷ recipients) = ap suc (all_placed at recipients)

-- a message more, by number
came_held : (entries : List (ℕ × Message)) (next number place : ℕ) (accept : AcceptFields) → next ≡ number → message_of entries next ≡ None
    → place < length accept.envelope.recipients → holds (entries ++ (next, accepted next accept) ∷ []) number place ≡ true
came_held entries next number place accept same none below =
    subst (λ n. holds (entries ++ (next, accepted next accept) ∷ []) n place ≡ true) same
    (ap (λ (o : Option Message). option_map_or (λ message. holds_at message.places place) o false) (joined_here entries next (accepted next accept) none)
    ∙ all_held accept.at accept.envelope.recipients place below)

came_other : (entries : List (ℕ × Message)) (next number place : ℕ) (accept : AcceptFields) → (next ≡ number → ⊥)
    → holds (entries ++ (next, accepted next accept) ∷ []) number place ≡ holds entries number place
came_other entries next number place accept out =
    ap (λ (o : Option Message). option_map_or (λ message. holds_at message.places place) o false) (joined_other entries next number (accepted next accept) out)

pub accept_moves : (changes : List Change) (accept : AcceptFields) (queue : Queue) → Knows changes queue
    → Moves changes (Accept accept) queue.messages (step queue (Accept accept)).messages
accept_moves changes accept queue knows = record {
  kept = λ number place off held. sym (came_other queue.messages queue.next number place accept (λ same. off (sym same ∙ knows.next))) ∙ held;
  stayed = λ number place way held leaves. none number place way leaves;
  went = λ number place off added out. inl (sym (came_other queue.messages queue.next number place accept (λ same. off (sym same ∙ knows.next))) ∙ out);
  came = λ place added.
      let is = some_is accept added.0 (sym (message_last changes (Accept accept)) ∙ added.1) in
      came_held queue.messages queue.next (last changes) place accept knows.next
      (none_after 0 queue.next queue.messages queue.next knows.rise (omega arith))
      (subst (λ (a : AcceptFields). place < length a.envelope.recipients) (sym is) added.2);
  one = λ number place way other leaves _. absurd (none number place way leaves);
  was = λ number place way leaves. absurd (none number place way leaves);
}
  where
    none : (number place : ℕ) (way : Way) → LeavesAt (joined changes (Accept accept)) (last changes) number place way → ⊥
    none number place way leaves = no_outcome accept leaves.outcome (sym (change_last changes (Accept accept)) ∙ leaves.change)

back_more : (changes : List Change) (change : Change) → Back changes → ((outcome : OutcomeFields) → change ≡ Outcome outcome → outcome.message < last changes) → Back (joined changes change)
back_more changes change back new at outcome is = by (cases_eq at (last changes))
  where
    by : (at ≡ last changes) ⊎ (at ≡ last changes → ⊥) → outcome.message < at
    by (inl same) =
        let e = sym (change_last changes change) ∙ subst (λ n. change_at (joined changes change) n ≡ Some (Outcome outcome)) same is in
        let below = new outcome (some_is change (Outcome outcome) e) in
        omega (arith, same, below)
    by (inr off) = back at outcome (sym (change_other changes change at off) ∙ is)

pub accept_known : (changes : List Change) (accept : AcceptFields) (queue : Queue) → Knows changes queue → Knows (joined changes (Accept accept)) (step queue (Accept accept))
accept_known changes accept queue knows = record {
  next = let next = knows.next in let more = last_joined changes (Accept accept) in omega (arith, next, more);
  back = back_more changes (Accept accept) knows.back (λ outcome e. absurd (no_outcome accept outcome (ap Some e)));
  rise = rise_joined 0 queue.next queue.messages (accepted queue.next accept) knows.rise;
  accept = λ number message is. (by number message is (cases_eq queue.next number)).0;
  places = λ number message is. (by number message is (cases_eq queue.next number)).1;
  number = λ number message is. (by number message is (cases_eq queue.next number)).2;
}
  where
    by : (number : ℕ) (message : Message) → message_of (queue.messages ++ (queue.next, accepted queue.next accept) ∷ []) number ≡ Some message
        → (queue.next ≡ number) ⊎ (queue.next ≡ number → ⊥)
        → (message_at (joined changes (Accept accept)) number ≡ Some message.accept) × (length message.places ≡ length message.accept.envelope.recipients) × (message.number ≡ number)
    by number message is (inl same) =
        let none = none_after 0 queue.next queue.messages queue.next knows.rise (omega arith) in
        let here = some_is (accepted queue.next accept) message (sym (joined_here queue.messages queue.next (accepted queue.next accept) none) ∙ subst (λ n. message_of (queue.messages ++ (queue.next, accepted queue.next accept) ∷ []) n ≡ Some message) (sym same) is) in (
          subst (λ n. message_at (joined changes (Accept accept)) n ≡ Some message.accept) (sym knows.next ∙ same)
              (message_last changes (Accept accept) ∙ ap (λ (m : Message). Some m.accept) here),
          subst (λ (m : Message). length m.places ≡ length m.accept.envelope.recipients) here (all_placed accept.at accept.envelope.recipients),
          sym (ap (λ (m : Message). m.number) here) ∙ same,
        )
    by number message is (inr off) =
        let before = sym (joined_other queue.messages queue.next number (accepted queue.next accept) off) ∙ is in (
          message_other changes (Accept accept) number knows.back (λ same. off (knows.next ∙ sym same)) ∙ knows.accept number message before,
          knows.places number message before,
          knows.number number message before,
        )

-- an outcome, and the message that it is for
record Meets (changes : List Change) (outcome : OutcomeFields) (queue : Queue) (message : Message) : Type 0 where
  knows : Knows changes queue
  is : message_of queue.messages outcome.message ≡ Some message
  fits : FitsMessage message outcome

abbrev after : OutcomeFields → Queue → Message → List (ℕ × Message)
after outcome queue message = ruled outcome queue.messages ++ reported queue.next outcome outcome.report (Some message)

-- there is a report, or none
pub report_or_not : (P : List (ℕ × Message) → Type 0) (next : ℕ) (outcome : OutcomeFields) (report : List ℕ) (message : Message)
    → (report ≡ [] → P [])
    → ((octet : ℕ) (rest : List ℕ) → report ≡ octet ∷ rest → P ((next, accepted next (report_of message.accept outcome)) ∷ []))
    → P (reported next outcome report (Some message))
report_or_not P next outcome [] message none some = none refl
report_or_not P next outcome (octet ∷ rest) message none some = some octet rest refl

-- no report is due for the null reverse path
null_reports : (version : Version) (message : Message) (at : ℕ) (rulings : List Ruling) → is_null message.accept.envelope.reverse_path ≡ true
    → list_any (reports_at version message at) rulings ≡ false
null_reports version message at [] null = refl
null_reports version message at (ruling ∷ rulings) null =
    (λ i. first (slice_get message.places ruling.place) i || list_any (reports_at version message at) rulings) ∙ null_reports version message at rulings null
  where
    of_recipient : (place : Place) (o : Option Recipient)
        → is_some (option_and_then (λ recipient. due_report_of version message.accept.envelope.reverse_path recipient.notify place (fate_of message.accept.at at ruling.verdict)) o)
        ≡ false
    of_recipient place None = refl
    of_recipient place (Some recipient) =
        ap (λ (test : Bool). is_some (if test then None else report_of_fate version recipient.notify place (fate_of message.accept.at at ruling.verdict))) null

    first : (o : Option Place) → is_some (option_and_then (λ place. due_for version message.accept at place ruling) o) ≡ false
    first None = refl
    first (Some place) = of_recipient place (slice_get message.accept.envelope.recipients ruling.place)

cons_is_some : (octet : ℕ) (rest : List ℕ) → octet ∷ rest ≡ [] → ⊥
cons_is_some octet rest e = let one : length (octet ∷ rest) ≡ 0 = ap length e in omega (arith, one)

pub not_null : (message : Message) (outcome : OutcomeFields) (octet : ℕ) (rest : List ℕ) → FitsMessage message outcome → outcome.report ≡ octet ∷ rest → is_null message.accept.envelope.reverse_path ≡ false
not_null message outcome octet rest fits is = by (is_null message.accept.envelope.reverse_path) refl
  where
    by : (test : Bool) → is_null message.accept.envelope.reverse_path ≡ test → is_null message.accept.envelope.reverse_path ≡ false
    by true e = absurd (cons_is_some octet rest (sym is ∙ fits.report.1 (null_reports outcome.version message outcome.at outcome.rulings e)))
    by false e = e

its_number : (changes : List Change) (outcome : OutcomeFields) (queue : Queue) (message : Message) → Meets changes outcome queue message → outcome.message < last changes
its_number changes outcome queue message meets =
    let below = message_below 0 queue.next queue.messages outcome.message message meets.knows.rise meets.is in
    let next = meets.knows.next in
    omega (arith, below, next)

report_made : (changes : List Change) (outcome : OutcomeFields) (queue : Queue) (message : Message) (octet : ℕ) (rest : List ℕ) → Meets changes outcome queue message → outcome.report ≡ octet ∷ rest
    → message_at (joined changes (Outcome outcome)) (last changes) ≡ Some (report_of message.accept outcome)
report_made changes outcome queue message octet rest meets is =
    let below = its_number changes outcome queue message meets in
    message_last changes (Outcome outcome)
    ∙ ap (report_for outcome outcome.report)
    (ap (option_and_then own_accept) (change_other changes (Outcome outcome) outcome.message (λ same. omega (arith, same, below)))
    ∙ own_from changes outcome.message message.accept (meets.knows.accept outcome.message message meets.is) (not_null message outcome octet rest meets.fits is))
    ∙ ap (λ (report : List ℕ). report_for outcome report (Some message.accept)) is

no_report_made : (changes : List Change) (outcome : OutcomeFields) (accept : AcceptFields) → outcome.report ≡ [] → message_at (joined changes (Outcome outcome)) (last changes) ≡ Some accept → ⊥
no_report_made changes outcome accept none is =
    none_some accept
    (sym (ap (λ (report : List ℕ). report_for outcome report (option_and_then own_accept (change_at (joined changes (Outcome outcome)) outcome.message))) none)
    ∙ sym (message_last changes (Outcome outcome)) ∙ is)

-- what leaves by an outcome
record LeavesNow (outcome : OutcomeFields) (message : Message) (number place : ℕ) (way : Way) : Type 0 where
  number_is : outcome.message ≡ number
  way_is : way_among message.accept.at outcome.at outcome.rulings place ≡ Some way
  held : holds_at message.places place ≡ true

leaves_now : (changes : List Change) (outcome : OutcomeFields) (queue : Queue) (message : Message) (number place : ℕ) (way : Way) → Meets changes outcome queue message
    → LeavesAt (joined changes (Outcome outcome)) (last changes) number place way → LeavesNow outcome message number place way
leaves_now changes outcome queue message number place way meets leaves =
    let same = one_outcome outcome leaves.outcome (sym (change_last changes (Outcome outcome)) ∙ leaves.change) in
    let number_is : outcome.message ≡ number = ap (λ (o : OutcomeFields). o.message) same ∙ leaves.its_message in
    let below = its_number changes outcome queue message meets in
    let known = meets.knows.accept outcome.message message meets.is in
    let accept_is = some_is message.accept leaves.accept
    (sym known ∙ subst (λ n. message_at changes n ≡ Some leaves.accept) (sym number_is)
    (sym (message_other changes (Outcome outcome) number meets.knows.back (λ e. omega (arith, e, number_is, below))) ∙ leaves.message)) in
    let ruling = subst (λ (o : OutcomeFields). Contains o.rulings (record { place = place; verdict = leaves.verdict })) (sym same) leaves.ruling in
    let ruled = ruled_way message.accept.at outcome.at message.places 0 outcome.rulings place leaves.verdict meets.fits.rulings ruling in
    record {
      number_is = number_is;
      way_is = ruled.way ∙ (λ i. way_of (fate_of (accept_is i).at (same i).at leaves.verdict)) ∙ leaves.leaves;
      held = ruled.holds;
    }

make_leaves : (changes : List Change) (outcome : OutcomeFields) (queue : Queue) (message : Message) (place : ℕ) (way : Way) → Meets changes outcome queue message
    → way_among message.accept.at outcome.at outcome.rulings place ≡ Some way → LeavesAt (joined changes (Outcome outcome)) (last changes) outcome.message place way
make_leaves changes outcome queue message place way meets is =
    let found = way_ruled message.accept.at outcome.at outcome.rulings place way is in
    let below = its_number changes outcome queue message meets in
    record {
      accept = message.accept;
      outcome = outcome;
      verdict = found.0;
      message = message_other changes (Outcome outcome) outcome.message meets.knows.back (λ e. omega (arith, e, below)) ∙ meets.knows.accept outcome.message message meets.is;
      change = change_last changes (Outcome outcome);
      its_message = refl;
      ruling = found.1;
      leaves = found.2;
    }

-- what is held after it
after_other : (outcome : OutcomeFields) (queue : Queue) (message : Message) (number place : ℕ) → (queue.next ≡ number → ⊥) → holds (after outcome queue message) number place ≡ holds (ruled outcome queue.messages) number place
after_other outcome queue message number place off =
    report_or_not (λ tail. holds (ruled outcome queue.messages ++ tail) number place ≡ holds (ruled outcome queue.messages) number place) queue.next outcome outcome.report message
    (λ _. ap (λ (l : List (ℕ × Message)). holds l number place) (append-nil (ruled outcome queue.messages)))
    (λ _ _ _. came_other (ruled outcome queue.messages) queue.next number place (report_of message.accept outcome) off)

was_held : (changes : List Change) (outcome : OutcomeFields) (queue : Queue) (message : Message) (place : ℕ) → Meets changes outcome queue message
    → holds queue.messages outcome.message place ≡ holds_at message.places place
was_held changes outcome queue message place meets = ap (λ (o : Option Message). option_map_or (λ message. holds_at message.places place) o false) meets.is

is_held_now : (changes : List Change) (outcome : OutcomeFields) (queue : Queue) (message : Message) (place : ℕ) → Meets changes outcome queue message
    → holds (after outcome queue message) outcome.message place ≡ (holds_at message.places place && stays (way_among message.accept.at outcome.at outcome.rulings place))
is_held_now changes outcome queue message place meets =
    let below = its_number changes outcome queue message meets in
    let next = meets.knows.next in
    after_other outcome queue message outcome.message place (λ e. omega (arith, e, below, next))
    ∙ ruled_same outcome 0 queue.next queue.messages place meets.knows.rise
    ∙ ap (λ (o : Option Message). option_map_or (λ message. holds_at (message_after outcome message).places place) o false) meets.is
    ∙ ruled_holds outcome.version message.accept outcome.at message.places 0 outcome.rulings place meets.fits.rulings

is_held_elsewhere : (outcome : OutcomeFields) (queue : Queue) (message : Message) (number place : ℕ) → (queue.next ≡ number → ⊥) → (outcome.message ≡ number → ⊥)
    → holds (after outcome queue message) number place ≡ holds queue.messages number place
is_held_elsewhere outcome queue message number place off other =
    after_other outcome queue message number place off
    ∙ ap (λ (o : Option Message). option_map_or (λ message. holds_at message.places place) o false) (ruled_other outcome queue.messages number other)

outcome_moves : (changes : List Change) (outcome : OutcomeFields) (queue : Queue) (message : Message) → Meets changes outcome queue message
    → Moves changes (Outcome outcome) queue.messages (after outcome queue message)
outcome_moves changes outcome queue message meets = record { kept = kept; stayed = stayed; went = went; came = came; one = one; was = was }
  where
    kept : (number place : ℕ) → (number ≡ last changes → ⊥) → holds (after outcome queue message) number place ≡ true → holds queue.messages number place ≡ true
    kept number place off held = by (cases_eq outcome.message number)
      where
        by : (outcome.message ≡ number) ⊎ (outcome.message ≡ number → ⊥) → holds queue.messages number place ≡ true
        by (inl same) =
            let here = subst (λ n. holds (after outcome queue message) n place ≡ true) (sym same) held in
            let parts = and_parts (holds_at message.places place) (stays (way_among message.accept.at outcome.at outcome.rulings place)) (sym (is_held_now changes outcome queue message place meets) ∙ here) in
            subst (λ n. holds queue.messages n place ≡ true) same (was_held changes outcome queue message place meets ∙ parts.0)
        by (inr other) = sym (is_held_elsewhere outcome queue message number place (λ e. off (sym e ∙ meets.knows.next)) other) ∙ held

    stayed : (number place : ℕ) (way : Way) → holds (after outcome queue message) number place ≡ true → LeavesAt (joined changes (Outcome outcome)) (last changes) number place way → ⊥
    stayed number place way held leaves =
        let now = leaves_now changes outcome queue message number place way meets leaves in
        let here = subst (λ n. holds (after outcome queue message) n place ≡ true) (sym now.number_is) held in
        let parts = and_parts (holds_at message.places place) (stays (way_among message.accept.at outcome.at outcome.rulings place)) (sym (is_held_now changes outcome queue message place meets) ∙ here) in
        false≢true (sym (ap stays now.way_is) ∙ parts.1)

    gone : (place : ℕ) (o : Option Way) → way_among message.accept.at outcome.at outcome.rulings place ≡ o → stays o ≡ false
        → (way : Way) × LeavesAt (joined changes (Outcome outcome)) (last changes) outcome.message place way
    gone place None is e = absurd (false≢true (sym e))
    gone place (Some way) is e = (way, make_leaves changes outcome queue message place way meets is)

    went : (number place : ℕ) → (number ≡ last changes → ⊥) → Added changes number place → holds (after outcome queue message) number place ≡ false
        → (holds queue.messages number place ≡ false) ⊎ ((way : Way) × LeavesAt (joined changes (Outcome outcome)) (last changes) number place way)
    went number place off added out = by (cases_eq outcome.message number)
      where
        split : outcome.message ≡ number
            → (holds_at message.places place ≡ false) ⊎ (stays (way_among message.accept.at outcome.at outcome.rulings place) ≡ false)
            → (holds queue.messages number place ≡ false) ⊎ ((way : Way) × LeavesAt (joined changes (Outcome outcome)) (last changes) number place way)
        split same (inl none) = inl (subst (λ n. holds queue.messages n place ≡ false) same (was_held changes outcome queue message place meets ∙ none))
        split same (inr leaves) =
            let found = gone place (way_among message.accept.at outcome.at outcome.rulings place) refl leaves in
            inr (found.0, subst (λ n. LeavesAt (joined changes (Outcome outcome)) (last changes) n place found.0) same found.1)

        by : (outcome.message ≡ number) ⊎ (outcome.message ≡ number → ⊥)
            → (holds queue.messages number place ≡ false) ⊎ ((way : Way) × LeavesAt (joined changes (Outcome outcome)) (last changes) number place way)
        by (inl same) =
            let here = subst (λ n. holds (after outcome queue message) n place ≡ false) (sym same) out in
            split same (and_cases (holds_at message.places place) (stays (way_among message.accept.at outcome.at outcome.rulings place)) (sym (is_held_now changes outcome queue message place meets) ∙ here))
        by (inr other) = inl (sym (is_held_elsewhere outcome queue message number place (λ e. off (sym e ∙ meets.knows.next)) other) ∙ out)

    came : (place : ℕ) → Added (joined changes (Outcome outcome)) (last changes) place → holds (after outcome queue message) (last changes) place ≡ true
    came place added =
        report_or_not (λ tail. holds (ruled outcome queue.messages ++ tail) (last changes) place ≡ true) queue.next outcome outcome.report message
        (λ none. absurd (no_report_made changes outcome added.0 none added.1))
        (λ octet rest is.
        let same = some_is (report_of message.accept outcome) added.0 (sym (report_made changes outcome queue message octet rest meets is) ∙ added.1) in
        came_held (ruled outcome queue.messages) queue.next (last changes) place (report_of message.accept outcome) meets.knows.next
        (none_after 0 queue.next (ruled outcome queue.messages) queue.next (rise_ruled outcome 0 queue.next queue.messages meets.knows.rise) (omega arith))
        (subst (λ (a : AcceptFields). place < length a.envelope.recipients) (sym same) added.2))

    one : (number place : ℕ) (way other : Way) → LeavesAt (joined changes (Outcome outcome)) (last changes) number place way
        → LeavesAt (joined changes (Outcome outcome)) (last changes) number place other → way ≡ other
    one number place way other first second =
        some_is way other (sym (leaves_now changes outcome queue message number place way meets first).way_is ∙ (leaves_now changes outcome queue message number place other meets second).way_is)

    was : (number place : ℕ) (way : Way) → LeavesAt (joined changes (Outcome outcome)) (last changes) number place way → holds queue.messages number place ≡ true
    was number place way leaves =
        let now = leaves_now changes outcome queue message number place way meets leaves in
        subst (λ n. holds queue.messages n place ≡ true) now.number_is (was_held changes outcome queue message place meets ∙ now.held)

outcome_known : (changes : List Change) (outcome : OutcomeFields) (queue : Queue) (message : Message) → Meets changes outcome queue message
    → Knows (joined changes (Outcome outcome)) (record { next = queue.next + 1; messages = after outcome queue message })
outcome_known changes outcome queue message meets = record {
  next = let next = meets.knows.next in let more = last_joined changes (Outcome outcome) in omega (arith, next, more);
  back = back_more changes (Outcome outcome) meets.knows.back
      (λ other e. subst (λ (o : OutcomeFields). o.message < last changes) (one_outcome outcome other (ap Some e)) (its_number changes outcome queue message meets));
  rise = report_or_not (λ tail. Rise 0 (queue.next + 1) (ruled outcome queue.messages ++ tail)) queue.next outcome outcome.report message
      (λ _. subst (Rise 0 (queue.next + 1)) (sym (append-nil (ruled outcome queue.messages))) (rise_more 0 queue.next (ruled outcome queue.messages) up))
      (λ _ _ _. rise_joined 0 queue.next (ruled outcome queue.messages) (accepted queue.next (report_of message.accept outcome)) up);
  accept = λ number one is. (all number one is).0;
  places = λ number one is. (all number one is).1;
  number = λ number one is. (all number one is).2;
}
  where
    up : Rise 0 queue.next (ruled outcome queue.messages)
    up = rise_ruled outcome 0 queue.next queue.messages meets.knows.rise

    IsKnown : ℕ → Message → Type 0
    IsKnown number one = (message_at (joined changes (Outcome outcome)) number ≡ Some one.accept) × (length one.places ≡ length one.accept.envelope.recipients) × (one.number ≡ number)

    old : (number : ℕ) (one : Message) → message_of (ruled outcome queue.messages) number ≡ Some one → IsKnown number one
    old number one is =
        let comes = ruled_comes outcome 0 queue.next queue.messages number one meets.knows.rise is in
        let below = message_below 0 queue.next queue.messages number comes.old meets.knows.rise comes.old_is in
        let next = meets.knows.next in (
          message_other changes (Outcome outcome) number meets.knows.back (λ e. omega (arith, e, below, next))
              ∙ meets.knows.accept number comes.old comes.old_is ∙ ap Some comes.accept,
          sym comes.places ∙ meets.knows.places number comes.old comes.old_is ∙ ap (λ (a : AcceptFields). length a.envelope.recipients) comes.accept,
          sym comes.number_is ∙ meets.knows.number number comes.old comes.old_is,
        )

    new : (number : ℕ) (one : Message) (octet : ℕ) (rest : List ℕ) → outcome.report ≡ octet ∷ rest
        → message_of (ruled outcome queue.messages ++ (queue.next, accepted queue.next (report_of message.accept outcome)) ∷ []) number ≡ Some one
        → (queue.next ≡ number) ⊎ (queue.next ≡ number → ⊥) → IsKnown number one
    new number one octet rest report is (inl same) =
        let none = none_after 0 queue.next (ruled outcome queue.messages) queue.next up (omega arith) in
        let here = some_is (accepted queue.next (report_of message.accept outcome)) one
        (sym (joined_here (ruled outcome queue.messages) queue.next (accepted queue.next (report_of message.accept outcome)) none)
        ∙ subst (λ n. message_of (ruled outcome queue.messages ++ (queue.next, accepted queue.next (report_of message.accept outcome)) ∷ []) n ≡ Some one) (sym same) is) in (
          subst (λ n. message_at (joined changes (Outcome outcome)) n ≡ Some one.accept) (sym meets.knows.next ∙ same)
              (report_made changes outcome queue message octet rest meets report ∙ ap (λ (m : Message). Some m.accept) here),
          subst (λ (m : Message). length m.places ≡ length m.accept.envelope.recipients) here refl,
          sym (ap (λ (m : Message). m.number) here) ∙ same,
        )
    new number one octet rest report is (inr off) =
        old number one (sym (joined_other (ruled outcome queue.messages) queue.next number (accepted queue.next (report_of message.accept outcome)) off) ∙ is)

    all : (number : ℕ) (one : Message) → message_of (ruled outcome queue.messages ++ reported queue.next outcome outcome.report (Some message)) number ≡ Some one → IsKnown number one
    all number one = report_or_not (λ tail. message_of (ruled outcome queue.messages ++ tail) number ≡ Some one → IsKnown number one) queue.next outcome outcome.report message
        (λ _ is. old number one (sym (ap (λ (l : List (ℕ × Message)). message_of l number) (append-nil (ruled outcome queue.messages))) ∙ is))
        (λ octet rest report is. new number one octet rest report is (cases_eq queue.next number))

-- one change more, of either kind
pub record Grows (changes : List Change) (change : Change) (queue : Queue) : Type 0 where
  pub knows : Knows (joined changes change) (step queue change)
  pub tells : Tells (joined changes change) (step queue change).messages

pub grows : (changes : List Change) (change : Change) (queue : Queue) → Knows changes queue → Tells changes queue.messages → FitsQueue queue change → Grows changes change queue
grows changes (Accept accept) queue knows tells fits = record {
  knows = accept_known changes accept queue knows;
  tells = tells_more changes (Accept accept) queue.messages (step queue (Accept accept)).messages knows.back tells (accept_moves changes accept queue knows);
}
grows changes (Outcome outcome) queue knows tells fits = by (message_of queue.messages outcome.message) refl fits.1
  where
    by : (o : Option Message) → message_of queue.messages outcome.message ≡ o → MatchOption o ⊥ (λ message. FitsMessage message outcome) → Grows changes (Outcome outcome) queue
    by None is none = absurd none
    by (Some message) is fits =
        let meets : Meets changes outcome queue message = record { knows = knows; is = is; fits = fits } in
        let same = ap (λ (o : Option Message). ruled outcome queue.messages ++ reported queue.next outcome outcome.report o) is in
        record {
          knows = subst (λ (l : List (ℕ × Message)). Knows (joined changes (Outcome outcome)) (record { next = queue.next + 1; messages = l })) (sym same) (outcome_known changes outcome queue message meets);
          tells = subst (Tells (joined changes (Outcome outcome))) (sym same) (tells_more changes (Outcome outcome) queue.messages (after outcome queue message) knows.back tells (outcome_moves changes outcome queue message meets));
        }
