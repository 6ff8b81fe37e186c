-- Messages by rising numbers, and what an outcome leaves of them.
use Rattle.std.proofs.Common.{◌≡◌, ◌⊎◌, inl, inr, ℕ, zero, suc, ◌+◌, ◌<◌, ◌≤◌, ◌==◌, Bool, true, false, List, [], ◌∷◌, ◌++◌, length, flat_map, Option, None, Some, refl, sym, subst, ap, ◌∙◌, arith, if◌then◌else◌, Contains}
use Rattle.std.specs.Option.{option_map_or}
use Rattle.std.specs.List.{list_any}
use Rattle.std.proofs.lemmas.Bool.{cond-true, cond-false, cases_eq, cases_lt, eq-eqb, ne_eqb, false≢true, or_parts}
use Rattle.std.proofs.lemmas.List.Elements.{Contains-append_cases, Contains-append_left, Contains-append_right}
use Rattle.relay_book.specs.declared.change.Outcome.{Outcome as OutcomeFields}
use Rattle.relay_book.specs.declared.message.Place.{Place}
use Rattle.relay_book.specs.declared.message.Message.{Message}
use Rattle.relay_book.specs.Queue.{holds_at, is_held, if_held, marks_from, marks_of_entry, message_after, message_of, ruled}
use Rattle.relay_book.specs.Book.{Rise}
use Rattle.relay_book.proofs.PlaceLemmas.{in_none, in_cons, head_in, none_some, some_is, ruled_length}

abbrev pub holds : List (ℕ × Message) → ℕ → ℕ → Bool
holds entries number place = option_map_or (λ message. holds_at message.places place) (message_of entries number) false

-- marks of one message
mark_there : (number n : ℕ) (places : List Place) (i : ℕ) → holds_at places i ≡ true → Contains (marks_from is_held number n places) (number, n + i)
mark_there number n [] i h = absurd (false≢true h)
mark_there number n (place ∷ places) zero h =
    Contains-append_left (if is_held place then (number, n) ∷ [] else []) (marks_from is_held number (suc n) places) (number, n + 0)
    (subst (λ (l : List (ℕ × ℕ)). Contains l (number, n + 0)) (sym (cond-true (is_held place) ((number, n) ∷ []) [] h))
    (subst (λ k. Contains {X = ℕ × ℕ} ((number, n) ∷ []) (number, k)) (omega arith) (head_in {A = ℕ × ℕ} (number, n) [])))
mark_there number n (place ∷ places) (suc i) h =
    Contains-append_right (if is_held place then (number, n) ∷ [] else []) (marks_from is_held number (suc n) places) (number, n + suc i)
    (subst (λ k. Contains (marks_from is_held number (suc n) places) (number, k)) (omega arith) (mark_there number (suc n) places i h))

record IsMarkOf (number n : ℕ) (places : List Place) (mark : ℕ × ℕ) : Type 0 where
  number_is : number ≡ mark.0
  index : ℕ
  place_is : mark.1 ≡ n + index
  held : holds_at places index ≡ true

mark_is : (number n : ℕ) (places : List Place) (mark : ℕ × ℕ) → Contains (marks_from is_held number n places) mark → IsMarkOf number n places mark
mark_is number n [] mark h = absurd (in_none mark h)
mark_is number n (place ∷ places) mark h =
    by (mark_is number (suc n) places mark)
    (Contains-append_cases (if is_held place then (number, n) ∷ [] else []) (marks_from is_held number (suc n) places) mark h)
  where
    one : (test : Bool) → is_held place ≡ test → Contains (if test then (number, n) ∷ [] else []) mark → IsMarkOf number n (place ∷ places) mark
    one false e h = absurd (in_none mark h)
    one true e h = same (in_cons (number, n) mark [] h)
      where
        same : ((number, n) ≡ mark) ⊎ Contains [] mark → IsMarkOf number n (place ∷ places) mark
        same (inr none) = absurd (in_none mark none)
        same (inl is) = record {
          number_is = ap (λ (m : ℕ × ℕ). m.0) is;
          index = 0;
          place_is = let second = ap (λ (m : ℕ × ℕ). m.1) is in omega (arith, second);
          held = e;
        }

    by : (Contains (marks_from is_held number (suc n) places) mark → IsMarkOf number (suc n) places mark)
        → Contains (if is_held place then (number, n) ∷ [] else []) mark ⊎ Contains (marks_from is_held number (suc n) places) mark
        → IsMarkOf number n (place ∷ places) mark
    by more (inl h) = one (is_held place) refl h
    by more (inr h) =
        let rest = more h in
        record {
          number_is = rest.number_is;
          index = suc rest.index;
          place_is = let is = rest.place_is in omega (arith, is);
          held = rest.held;
        }

-- marks of all messages
pub mark_held : (entries : List (ℕ × Message)) (number place : ℕ) → holds entries number place ≡ true → Contains (flat_map (marks_of_entry is_held) entries) (number, place)
mark_held [] number place h = absurd (false≢true h)
mark_held (entry ∷ entries) number place h = by (mark_held entries number place) (cases_eq entry.0 number)
  where
    of : Option Message → Bool
    of o = option_map_or (λ message. holds_at message.places place) o false

    marks : List (ℕ × ℕ)
    marks = flat_map (marks_of_entry is_held) entries

    by : (holds entries number place ≡ true → Contains (flat_map (marks_of_entry is_held) entries) (number, place))
        → (entry.0 ≡ number) ⊎ (entry.0 ≡ number → ⊥)
        → Contains (marks_from is_held entry.0 0 entry.1.places ++ flat_map (marks_of_entry is_held) entries) (number, place)
    by more (inl same) =
        let here = cond-true (entry.0 == number) (Some entry.1) (message_of entries number) (eq-eqb entry.0 number same) in
        let held = sym (ap (λ (o : Option Message). option_map_or (λ message. holds_at message.places place) o false) here) ∙ h in
        let there = mark_there entry.0 0 entry.1.places place held in
        let zero_is : 0 + place ≡ place = omega arith in
        Contains-append_left (marks_from is_held entry.0 0 entry.1.places) (flat_map (marks_of_entry is_held) entries) (number, place)
        (subst (λ (mark : ℕ × ℕ). Contains (marks_from is_held entry.0 0 entry.1.places) mark) (λ i. (same i, zero_is i)) there)
    by more (inr out) =
        let past = cond-false (entry.0 == number) (Some entry.1) (message_of entries number) (ne_eqb entry.0 number out) in
        let held = sym (ap (λ (o : Option Message). option_map_or (λ message. holds_at message.places place) o false) past) ∙ h in
        Contains-append_right (marks_from is_held entry.0 0 entry.1.places) (flat_map (marks_of_entry is_held) entries) (number, place) (more held)

pub held_mark : (least next : ℕ) (entries : List (ℕ × Message)) (number place : ℕ) → Rise least next entries
    → Contains (flat_map (marks_of_entry is_held) entries) (number, place) → (holds entries number place ≡ true) × (least ≤ number)
held_mark least next [] number place rise h = absurd (in_none (number, place) h)
held_mark least next (entry ∷ entries) number place rise h =
    by (held_mark (suc entry.0) next entries number place rise.1)
    (Contains-append_cases (marks_from is_held entry.0 0 entry.1.places) (flat_map (marks_of_entry is_held) entries) (number, place) h)
  where
    by : (Contains (flat_map (marks_of_entry is_held) entries) (number, place) → (holds entries number place ≡ true) × (suc entry.0 ≤ number))
        → Contains (marks_from is_held entry.0 0 entry.1.places) (number, place) ⊎ Contains (flat_map (marks_of_entry is_held) entries) (number, place)
        → (holds (entry ∷ entries) number place ≡ true) × (least ≤ number)
    by more (inl h) =
        let mark = mark_is entry.0 0 entry.1.places (number, place) h in
        let same = mark.number_is in
        let here = cond-true (entry.0 == number) (Some entry.1) (message_of entries number) (eq-eqb entry.0 number same) in
        let place_is : mark.index ≡ place = (let is = mark.place_is in omega (arith, is)) in
        (ap (λ (o : Option Message). option_map_or (λ message. holds_at message.places place) o false) here ∙ subst (λ n. holds_at entry.1.places n ≡ true) place_is mark.held, omega (arith, same, rise.0))
    by more (inr h) =
        let rest = more h in
        let past = cond-false (entry.0 == number) (Some entry.1) (message_of entries number) (ne_eqb entry.0 number (λ same. omega (arith, same, rest.1))) in
        (ap (λ (o : Option Message). option_map_or (λ message. holds_at message.places place) o false) past ∙ rest.0, omega (arith, rise.0, rest.1))

-- which message a number has
pub none_before : (least next : ℕ) (entries : List (ℕ × Message)) (number : ℕ) → Rise least next entries → number < least → message_of entries number ≡ None
none_before least next [] number rise below = refl
none_before least next (entry ∷ entries) number rise below =
    cond-false (entry.0 == number) _ _ (ne_eqb entry.0 number (λ same. omega (arith, same, below, rise.0)))
    ∙ none_before (suc entry.0) next entries number rise.1 (omega (arith, below, rise.0))

pub none_after : (least next : ℕ) (entries : List (ℕ × Message)) (number : ℕ) → Rise least next entries → next ≤ number → message_of entries number ≡ None
none_after least next [] number rise after = refl
none_after least next (entry ∷ entries) number rise after =
    let up = entry_below (suc entry.0) next entries rise.1 in
    cond-false (entry.0 == number) _ _ (ne_eqb entry.0 number (λ same. omega (arith, same, after, up)))
    ∙ none_after (suc entry.0) next entries number rise.1 after
  where
    entry_below : (least next : ℕ) (entries : List (ℕ × Message)) → Rise least next entries → least ≤ next
    entry_below least next [] rise = rise
    entry_below least next (entry ∷ entries) rise = let rest = entry_below (suc entry.0) next entries rise.1 in omega (arith, rest, rise.0)

pub message_below : (least next : ℕ) (entries : List (ℕ × Message)) (number : ℕ) (message : Message) → Rise least next entries → message_of entries number ≡ Some message → number < next
message_below least next entries number message rise is = by (cases_lt number next)
  where
    by : (number < next) ⊎ (next ≤ number) → number < next
    by (inl below) = below
    by (inr after) = absurd (none_some message (sym (none_after least next entries number rise after) ∙ is))

-- a message more
pub joined_other : (entries : List (ℕ × Message)) (next number : ℕ) (message : Message) → (next ≡ number → ⊥) → message_of (entries ++ (next, message) ∷ []) number ≡ message_of entries number
joined_other [] next number message out = cond-false (next == number) _ _ (ne_eqb next number out)
joined_other (entry ∷ entries) next number message out = ap (λ (o : Option Message). if entry.0 == number then Some entry.1 else o) (joined_other entries next number message out)

pub joined_here : (entries : List (ℕ × Message)) (next : ℕ) (message : Message) → message_of entries next ≡ None → message_of (entries ++ (next, message) ∷ []) next ≡ Some message
joined_here [] next message none = cond-true (next == next) _ _ (eq-eqb next next refl)
joined_here (entry ∷ entries) next message none = by (joined_here entries next message) (cases_eq entry.0 next)
  where
    by : (message_of entries next ≡ None → message_of (entries ++ (next, message) ∷ []) next ≡ Some message) → (entry.0 ≡ next) ⊎ (entry.0 ≡ next → ⊥)
        → (if entry.0 == next then Some entry.1 else message_of (entries ++ (next, message) ∷ []) next) ≡ Some message
    by more (inl same) = absurd (none_some entry.1 (sym none ∙ cond-true (entry.0 == next) (Some entry.1) (message_of entries next) (eq-eqb entry.0 next same)))
    by more (inr out) =
        let off = ne_eqb entry.0 next out in
        cond-false (entry.0 == next) _ _ off
        ∙ more (sym (cond-false (entry.0 == next) (Some entry.1) (message_of entries next) off) ∙ none)

pub rise_joined : (least next : ℕ) (entries : List (ℕ × Message)) (message : Message) → Rise least next entries → Rise least (next + 1) (entries ++ (next, message) ∷ [])
rise_joined least next [] message rise = (rise, omega arith)
rise_joined least next (entry ∷ entries) message rise = (rise.0, rise_joined (suc entry.0) next entries message rise.1)

pub rise_more : (least next : ℕ) (entries : List (ℕ × Message)) → Rise least next entries → Rise least (next + 1) entries
rise_more least next [] rise = omega (arith, rise)
rise_more least next (entry ∷ entries) rise = (rise.0, rise_more (suc entry.0) next entries rise.1)

pub rise_less : (less least next : ℕ) (entries : List (ℕ × Message)) → less ≤ least → Rise least next entries → Rise less next entries
rise_less less least next [] below rise = omega (arith, below, rise)
rise_less less least next (entry ∷ entries) below rise = (omega (arith, below, rise.0), rise.1)

-- the messages after an outcome
pub ruled_at : (outcome : OutcomeFields) (entry : ℕ × Message) (entries : List (ℕ × Message)) → entry.0 ≡ outcome.message
    → ruled outcome (entry ∷ entries) ≡ if_held entry.0 (message_after outcome entry.1) ++ entries
ruled_at outcome entry entries same = cond-true (entry.0 == outcome.message) _ _ (eq-eqb entry.0 outcome.message same)

pub ruled_past : (outcome : OutcomeFields) (entry : ℕ × Message) (entries : List (ℕ × Message)) → (entry.0 ≡ outcome.message → ⊥)
    → ruled outcome (entry ∷ entries) ≡ entry ∷ ruled outcome entries
ruled_past outcome entry entries out = cond-false (entry.0 == outcome.message) _ _ (ne_eqb entry.0 outcome.message out)

-- an entry is kept or left out
pub kept_or_not : (P : List (ℕ × Message) → Type 0) (number : ℕ) (message : Message) (entries : List (ℕ × Message))
    → (list_any is_held message.places ≡ true → P ((number, message) ∷ entries)) → (list_any is_held message.places ≡ false → P entries)
    → P (if_held number message ++ entries)
kept_or_not P number message entries kept out = by (list_any is_held message.places) refl
  where
    by : (test : Bool) → list_any is_held message.places ≡ test → P ((if test then (number, message) ∷ [] else []) ++ entries)
    by true e = kept e
    by false e = out e

pub rise_ruled : (outcome : OutcomeFields) (least next : ℕ) (entries : List (ℕ × Message)) → Rise least next entries → Rise least next (ruled outcome entries)
rise_ruled outcome least next [] rise = rise
rise_ruled outcome least next (entry ∷ entries) rise = by (rise_ruled outcome (suc entry.0) next entries rise.1) (cases_eq entry.0 outcome.message)
  where
    by : Rise (suc entry.0) next (ruled outcome entries) → (entry.0 ≡ outcome.message) ⊎ (entry.0 ≡ outcome.message → ⊥) → Rise least next (ruled outcome (entry ∷ entries))
    by rest (inl same) =
        subst (Rise least next) (sym (ruled_at outcome entry entries same))
        (kept_or_not (Rise least next) entry.0 (message_after outcome entry.1) entries (λ _. (rise.0, rise.1)) (λ _. rise_less least (suc entry.0) next entries (omega (arith, rise.0)) rise.1))
    by rest (inr out) = subst (Rise least next) (sym (ruled_past outcome entry entries out)) (rise.0, rest)

pub ruled_other : (outcome : OutcomeFields) (entries : List (ℕ × Message)) (number : ℕ) → (outcome.message ≡ number → ⊥) → message_of (ruled outcome entries) number ≡ message_of entries number
ruled_other outcome [] number out = refl
ruled_other outcome (entry ∷ entries) number out = by (ruled_other outcome entries number out) (cases_eq entry.0 outcome.message)
  where
    by : message_of (ruled outcome entries) number ≡ message_of entries number → (entry.0 ≡ outcome.message) ⊎ (entry.0 ≡ outcome.message → ⊥)
        → message_of (ruled outcome (entry ∷ entries)) number ≡ (if entry.0 == number then Some entry.1 else message_of entries number)
    by rest (inl same) =
        let off = ne_eqb entry.0 number (λ is. out (sym same ∙ is)) in
        ap (λ (l : List (ℕ × Message)). message_of l number) (ruled_at outcome entry entries same)
        ∙ kept_or_not (λ l. message_of l number ≡ message_of entries number) entry.0 (message_after outcome entry.1) entries
        (λ _. cond-false (entry.0 == number) _ _ off) (λ _. refl)
        ∙ sym (cond-false (entry.0 == number) (Some entry.1) (message_of entries number) off)
    by rest (inr past) =
        ap (λ (l : List (ℕ × Message)). message_of l number) (ruled_past outcome entry entries past)
        ∙ ap (λ (o : Option Message). if entry.0 == number then Some entry.1 else o) rest

unheld : (places : List Place) (n : ℕ) → list_any is_held places ≡ false → holds_at places n ≡ false
unheld [] n none = refl
unheld (place ∷ places) zero none = (or_parts (is_held place) (list_any is_held places) none).0
unheld (place ∷ places) (suc n) none = unheld places n (or_parts (is_held place) (list_any is_held places) none).1

-- what is held of the message of the outcome
pub ruled_same : (outcome : OutcomeFields) (least next : ℕ) (entries : List (ℕ × Message)) (place : ℕ) → Rise least next entries
    → holds (ruled outcome entries) outcome.message place
    ≡ option_map_or (λ message. holds_at (message_after outcome message).places place) (message_of entries outcome.message) false
ruled_same outcome least next [] place rise = refl
ruled_same outcome least next (entry ∷ entries) place rise = by (ruled_same outcome (suc entry.0) next entries place rise.1) (cases_eq entry.0 outcome.message)
  where
    now : Option Message → Bool
    now o = option_map_or (λ message. holds_at message.places place) o false

    by : holds (ruled outcome entries) outcome.message place
        ≡ option_map_or (λ message. holds_at (message_after outcome message).places place) (message_of entries outcome.message) false
        → (entry.0 ≡ outcome.message) ⊎ (entry.0 ≡ outcome.message → ⊥)
        → holds (ruled outcome (entry ∷ entries)) outcome.message place
        ≡ option_map_or (λ message. holds_at (message_after outcome message).places place)
        (if entry.0 == outcome.message then Some entry.1 else message_of entries outcome.message) false
    by rest (inl same) =
        let on = eq-eqb entry.0 outcome.message same in
        ap (λ (l : List (ℕ × Message)). holds l outcome.message place) (ruled_at outcome entry entries same)
        ∙ kept_or_not (λ l. holds l outcome.message place ≡ holds_at (message_after outcome entry.1).places place) entry.0 (message_after outcome entry.1) entries
        (λ _. ap (λ (o : Option Message). option_map_or (λ message. holds_at message.places place) o false)
        (cond-true (entry.0 == outcome.message) (Some (message_after outcome entry.1)) (message_of entries outcome.message) on))
        (λ none. ap (λ (o : Option Message). option_map_or (λ message. holds_at message.places place) o false)
        (none_before (suc entry.0) next entries outcome.message rise.1 (omega (arith, same)))
        ∙ sym (unheld (message_after outcome entry.1).places place none))
        ∙ sym (ap (λ (o : Option Message). option_map_or (λ message. holds_at (message_after outcome message).places place) o false)
        (cond-true (entry.0 == outcome.message) (Some entry.1) (message_of entries outcome.message) on))
    by rest (inr out) =
        let off = ne_eqb entry.0 outcome.message out in
        ap (λ (l : List (ℕ × Message)). holds l outcome.message place) (ruled_past outcome entry entries out)
        ∙ ap (λ (o : Option Message). option_map_or (λ message. holds_at message.places place) o false)
        (cond-false (entry.0 == outcome.message) (Some entry.1) (message_of (ruled outcome entries) outcome.message) off)
        ∙ rest
        ∙ sym (ap (λ (o : Option Message). option_map_or (λ message. holds_at (message_after outcome message).places place) o false)
        (cond-false (entry.0 == outcome.message) (Some entry.1) (message_of entries outcome.message) off))

-- what was accepted stays, and the number of places
pub record Comes (entries : List (ℕ × Message)) (number : ℕ) (message : Message) : Type 0 where
  pub old : Message
  pub old_is : message_of entries number ≡ Some old
  pub accept : old.accept ≡ message.accept
  pub places : length old.places ≡ length message.places
  pub number_is : old.number ≡ message.number

comes_same : (entries : List (ℕ × Message)) (number : ℕ) (message : Message) → message_of entries number ≡ Some message → Comes entries number message
comes_same entries number message is = record { old = message; old_is = is; accept = refl; places = refl; number_is = refl }

pub ruled_comes : (outcome : OutcomeFields) (least next : ℕ) (entries : List (ℕ × Message)) (number : ℕ) (message : Message) → Rise least next entries
    → message_of (ruled outcome entries) number ≡ Some message → Comes entries number message
ruled_comes outcome least next [] number message rise is = absurd (none_some message is)
ruled_comes outcome least next (entry ∷ entries) number message rise is =
    by (ruled_comes outcome (suc entry.0) next entries number message rise.1) (cases_eq entry.0 outcome.message)
  where
    skip : (out : entry.0 ≡ number → ⊥) → Comes entries number message → Comes (entry ∷ entries) number message
    skip out comes = record {
      old = comes.old;
      old_is = cond-false (entry.0 == number) (Some entry.1) (message_of entries number) (ne_eqb entry.0 number out) ∙ comes.old_is;
      accept = comes.accept;
      places = comes.places;
      number_is = comes.number_is;
    }

    -- the first entry, as it is or after the outcome
    front : (now : Message) (rest : List (ℕ × Message)) → now.accept ≡ entry.1.accept → length now.places ≡ length entry.1.places → now.number ≡ entry.1.number
        → (message_of rest number ≡ Some message → (entry.0 ≡ number → ⊥) → Comes entries number message)
        → message_of ((entry.0, now) ∷ rest) number ≡ Some message → (entry.0 ≡ number) ⊎ (entry.0 ≡ number → ⊥) → Comes (entry ∷ entries) number message
    front now rest accept places number_is more is (inl same) =
        let on = eq-eqb entry.0 number same in
        let it = some_is now message (sym (cond-true (entry.0 == number) (Some now) (message_of rest number) on) ∙ is) in
        record {
          old = entry.1;
          old_is = cond-true (entry.0 == number) (Some entry.1) (message_of entries number) on;
          accept = sym accept ∙ ap (λ (m : Message). m.accept) it;
          places = sym places ∙ ap (λ (m : Message). length m.places) it;
          number_is = sym number_is ∙ ap (λ (m : Message). m.number) it;
        }
    front now rest accept places number_is more is (inr out) =
        skip out (more (sym (cond-false (entry.0 == number) (Some now) (message_of rest number) (ne_eqb entry.0 number out)) ∙ is) out)

    by : (message_of (ruled outcome entries) number ≡ Some message → Comes entries number message)
        → (entry.0 ≡ outcome.message) ⊎ (entry.0 ≡ outcome.message → ⊥) → Comes (entry ∷ entries) number message
    by more (inl same) =
        kept_or_not (λ l. message_of l number ≡ Some message → Comes (entry ∷ entries) number message) entry.0 (message_after outcome entry.1) entries
        (λ _ is. front (message_after outcome entry.1) entries refl (ruled_length outcome.version entry.1.accept outcome.at entry.1.places outcome.rulings) refl
        (λ there _. comes_same entries number message there) is (cases_eq entry.0 number))
        (λ _ there. skip
        (λ here. none_some message (sym (none_before (suc entry.0) next entries number rise.1 (omega (arith, here))) ∙ there))
        (comes_same entries number message there))
        (sym (ap (λ (l : List (ℕ × Message)). message_of l number) (ruled_at outcome entry entries same)) ∙ is)
    by more (inr out) =
        front entry.1 (ruled outcome entries) refl refl refl (λ there _. more there)
        (sym (ap (λ (l : List (ℕ × Message)). message_of l number) (ruled_past outcome entry entries out)) ∙ is) (cases_eq entry.0 number)
