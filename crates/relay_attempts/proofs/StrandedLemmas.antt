-- The messages with a held place that has no hop, after an outcome.
use Rattle.std.proofs.Common.{◌≡◌, ◌⊎◌, inl, inr, ℕ, zero, suc, ◌+◌, ◌<◌, ◌==◌, ◌||◌, not, cond, Bool, true, false, List, [], ◌∷◌, ◌++◌, map, Option, None, Some, MatchOption, is_some, refl, sym, ap, ◌∙◌, subst, arith, if◌then◌else◌}
use Rattle.std.specs.List.{filter, list_any}
use Rattle.std.specs.Option.{option_map_or}
use Rattle.std.proofs.lemmas.Bool.{and_from, and_parts, cases_eq, cond-true, cond-false, eq-eqb, ne_eqb, false≢true}
use Rattle.std.proofs.lemmas.List.Elements.{filter-append}
use Rattle.relay_envelope.specs.declared.envelope.Recipient.{Recipient}
use Rattle.relay_routes.specs.Routes.{RouteTable}
use Rattle.relay_book.specs.declared.change.Change.TheVariants as change
use Rattle.relay_book.specs.declared.change.Outcome.{Outcome}
use Rattle.relay_book.specs.declared.message.Message.{Message}
use Rattle.relay_book.specs.declared.message.Place.{Place}
use Rattle.relay_book.specs.Book.{Rise}
use Rattle.relay_book.specs.Queue.{AreRulings, Queue, accepted, holds_at, if_held, is_held, message_after, message_of, places_ruled, report_of, reported, ruled, step}
use Rattle.relay_attempts.specs.AddedOutcome.{RulesOn}
use Rattle.relay_attempts.specs.Hops.{hop_of_place, is_any, is_stranded, is_stranded_at, places_where, stranded_of, stranded_places, without}
use Rattle.relay_attempts.proofs.GatherLemmas.{none_before}
use Rattle.relay_attempts.proofs.MessageLemmas.{found_before, found_last, none_at_next, ruled_none_at_next, was_held}

true_or_false : (b : Bool) → (b ≡ true) ⊎ (b ≡ false)
true_or_false true = inl refl
true_or_false false = inr refl

module _ (table : RouteTable) (recipients : List Recipient) where
  abbrev has_no_hop : ℕ → Bool
  has_no_hop n = not (is_some (hop_of_place table recipients n))

  -- a held place without a hop
  record IsThere (n : ℕ) (places : List Place) : Type 0 where
    index : ℕ
    held : holds_at places index ≡ true
    none : has_no_hop (n + index) ≡ true

  there_is : (n : ℕ) (places : List Place) → is_any (places_where (is_stranded table recipients) n places) ≡ true → IsThere n places
  there_is n [] some = absurd (false≢true some)
  there_is n (place ∷ places) some = by (is_stranded table recipients n place) refl (there_is (suc n) places) some
    where
      by : (b : Bool) → is_stranded table recipients n place ≡ b
          → (is_any (places_where (is_stranded table recipients) (suc n) places) ≡ true → IsThere (suc n) places)
          → is_any ((if b then n ∷ [] else []) ++ places_where (is_stranded table recipients) (suc n) places) ≡ true → IsThere n (place ∷ places)
      by true is rest h =
          let parts = and_parts place.held (has_no_hop n) is in
          let same : n ≡ n + 0 = omega arith in
          record { index = 0; held = parts.0; none = subst (λ k. has_no_hop k ≡ true) same parts.1 }
      by false is rest h =
          let found = rest h in
          let same : suc n + found.index ≡ n + suc found.index = omega arith in
          record { index = suc found.index; held = found.held; none = subst (λ k. has_no_hop k ≡ true) same found.none }

  some_is_there : (n : ℕ) (places : List Place) (i : ℕ) → holds_at places i ≡ true → has_no_hop (n + i) ≡ true → is_any (places_where (is_stranded table recipients) n places) ≡ true
  some_is_there n [] i held none = absurd (false≢true held)
  some_is_there n (place ∷ places) zero held none =
      let same : n + 0 ≡ n = omega arith in
      let here = and_from place.held (has_no_hop n) held (subst (λ k. has_no_hop k ≡ true) same none) in
      ap (λ (b : Bool). is_any ((if b then n ∷ [] else []) ++ places_where (is_stranded table recipients) (suc n) places)) here
  some_is_there n (place ∷ places) (suc i) held none =
      let same : n + suc i ≡ suc n + i = omega arith in
      by (is_stranded table recipients n place) (some_is_there (suc n) places i held (subst (λ k. has_no_hop k ≡ true) same none))
    where
      by : (b : Bool) → is_any (places_where (is_stranded table recipients) (suc n) places) ≡ true
          → is_any ((if b then n ∷ [] else []) ++ places_where (is_stranded table recipients) (suc n) places) ≡ true
      by true rest = refl
      by false rest = rest

pub held_any : (places : List Place) (i : ℕ) → holds_at places i ≡ true → list_any is_held places ≡ true
held_any [] i held = absurd (false≢true held)
held_any (place ∷ places) zero held = ap (λ (b : Bool). b || list_any is_held places) held
held_any (place ∷ places) (suc i) held = by place.held (held_any places i held)
  where
    by : (b : Bool) → list_any is_held places ≡ true → (b || list_any is_held places) ≡ true
    by true rest = refl
    by false rest = rest

module _ (table : RouteTable) (outcome : Outcome) where
  abbrev after : Message → Message
  after message = message_after outcome message

  abbrev is_lost : Message → Bool
  is_lost message = is_any (stranded_places table message)

  -- a message that has a held place without a hop had one
  was_stranded : (message : Message) → AreRulings message.places 0 outcome.rulings → is_lost (after message) ≡ true → is_lost message ≡ true
  was_stranded message are some =
      let found = there_is table message.accept.envelope.recipients 0 (places_ruled outcome.version message.accept outcome.at message.places outcome.rulings) some in
      some_is_there table message.accept.envelope.recipients 0 message.places found.index
      (was_held outcome.version message.accept outcome.at message.places outcome.rulings found.index are found.held) found.none

  -- and is still queued
  stranded_is_held : (message : Message) → is_lost message ≡ true → list_any is_held message.places ≡ true
  stranded_is_held message some =
      let found = there_is table message.accept.envelope.recipients 0 message.places some in
      held_any message.places found.index found.held

  numbers : List (ℕ × Message) → List ℕ
  numbers entries = stranded_of table entries

  abbrev row : Bool → ℕ → List ℕ → List ℕ
  row b n rest = cond b (n ∷ rest) rest

  pub stranded_row : (entry : ℕ × Message) (entries : List (ℕ × Message)) → stranded_of table (entry ∷ entries) ≡ row (is_lost entry.1) entry.0 (stranded_of table entries)
  stranded_row entry entries = by (is_lost entry.1)
    where
      by : (b : Bool) → map (λ (e : ℕ × Message). e.0) (cond b (entry ∷ filter (λ e. is_any (stranded_places table e.1)) entries) (filter (λ e. is_any (stranded_places table e.1)) entries))
          ≡ row b entry.0 (stranded_of table entries)
      by true = refl
      by false = refl

  without_row : (number : ℕ) (b : Bool) (n : ℕ) (rest : List ℕ) → (n ≡ number → ⊥) → without number (row b n rest) ≡ row b n (without number rest)
  without_row number true n rest off = ap (λ (same : Bool). cond (not same) (n ∷ without number rest) (without number rest)) (ne_eqb n number off)
  without_row number false n rest off = refl

  without_itself : (b : Bool) (n number : ℕ) (rest : List ℕ) → n ≡ number → without number (row b n rest) ≡ without number rest
  without_itself true n number rest same = ap (λ (b : Bool). cond (not b) (n ∷ without number rest) (without number rest)) (eq-eqb n number same)
  without_itself false n number rest same = refl

  -- a number below all messages isn't among them
  none_to_remove : (number least next : ℕ) (entries : List (ℕ × Message)) → Rise least next entries → number < least → without number (stranded_of table entries) ≡ stranded_of table entries
  none_to_remove number least next [] rise below = refl
  none_to_remove number least next (entry ∷ entries) rise below =
      ap (without number) (stranded_row entry entries)
      ∙ without_row number (is_lost entry.1) entry.0 (stranded_of table entries) (λ same. omega (arith, same, below, rise.0))
      ∙ ap (row (is_lost entry.1) entry.0) (none_to_remove number (suc entry.0) next entries rise.1 (omega (arith, below, rise.0)))
      ∙ sym (stranded_row entry entries)

  abbrev lost_at : Option Message → Bool
  lost_at found = option_map_or is_lost found false

  abbrev left : Bool → List ℕ → List ℕ
  left b all = if b then all else without outcome.message all

  -- after the verdicts of an outcome its message goes from the numbers, unless it is still stranded
  ruled_numbers : (least next : ℕ) (entries : List (ℕ × Message)) → Rise least next entries
      → ((message : Message) → message_of entries outcome.message ≡ Some message → AreRulings message.places 0 outcome.rulings)
      → stranded_of table (ruled outcome entries) ≡ left (is_stranded_at table (ruled outcome entries) outcome.message) (stranded_of table entries)
  ruled_numbers least next [] rise are = refl
  ruled_numbers least next (entry ∷ entries) rise are =
      by (entry.0 == outcome.message) refl
      (λ off. ruled_numbers (suc entry.0) next entries rise.1
      (λ message found. are message (cond-false (entry.0 == outcome.message) (Some entry.1) (message_of entries outcome.message) off ∙ found)))
    where
      same : (entry.0 == outcome.message) ≡ true → entry.0 ≡ outcome.message
      same is = of (cases_eq entry.0 outcome.message)
        where
          of : (entry.0 ≡ outcome.message) ⊎ (entry.0 ≡ outcome.message → ⊥) → entry.0 ≡ outcome.message
          of (inl e) = e
          of (inr off) = absurd (false≢true (sym (ne_eqb entry.0 outcome.message off) ∙ is))

      differs : (entry.0 == outcome.message) ≡ false → entry.0 ≡ outcome.message → ⊥
      differs is e = false≢true (sym is ∙ eq-eqb entry.0 outcome.message e)

      none_after : (entry.0 == outcome.message) ≡ true → message_of entries outcome.message ≡ None
      none_after is = none_before (suc entry.0) next entries outcome.message rise.1 (let e = same is in omega (arith, e))

      gone : (entry.0 == outcome.message) ≡ true → without outcome.message (stranded_of table (entry ∷ entries)) ≡ stranded_of table entries
      gone is =
          ap (without outcome.message) (stranded_row entry entries)
          ∙ without_itself (is_lost entry.1) entry.0 outcome.message (stranded_of table entries) (same is)
          ∙ none_to_remove outcome.message (suc entry.0) next entries rise.1 (let e = same is in omega (arith, e))

      rulings : (entry.0 == outcome.message) ≡ true → AreRulings entry.1.places 0 outcome.rulings
      rulings is = are entry.1 (cond-true (entry.0 == outcome.message) (Some entry.1) (message_of entries outcome.message) is)

      still : (entry.0 == outcome.message) ≡ true → (b : Bool) → is_lost (after entry.1) ≡ b
          → row b entry.0 (stranded_of table entries) ≡ left b (stranded_of table (entry ∷ entries))
      still is true lost =
          sym (stranded_row entry entries ∙ ap (λ (b : Bool). row b entry.0 (stranded_of table entries)) (was_stranded entry.1 (rulings is) lost))
      still is false lost = sym (gone is)

      here : (entry.0 == outcome.message) ≡ true → (held : Bool) → list_any is_held (after entry.1).places ≡ held
          → stranded_of table ((if held then (entry.0, after entry.1) ∷ [] else []) ++ entries)
          ≡ left (is_stranded_at table ((if held then (entry.0, after entry.1) ∷ [] else []) ++ entries) outcome.message) (stranded_of table (entry ∷ entries))
      here is true held =
          stranded_row (entry.0, after entry.1) entries
          ∙ still is (is_lost (after entry.1)) refl
          ∙ ap (λ (o : Option Message). left (lost_at o) (stranded_of table (entry ∷ entries)))
          (sym (cond-true (entry.0 == outcome.message) (Some (after entry.1)) (message_of entries outcome.message) is))
      here is false held =
          sym (gone is) ∙ ap (λ (o : Option Message). left (lost_at o) (stranded_of table (entry ∷ entries))) (sym (none_after is))

      there : (entry.0 == outcome.message) ≡ false
          → stranded_of table (ruled outcome entries) ≡ left (is_stranded_at table (ruled outcome entries) outcome.message) (stranded_of table entries)
          → stranded_of table (entry ∷ ruled outcome entries) ≡ left (is_stranded_at table (entry ∷ ruled outcome entries) outcome.message) (stranded_of table (entry ∷ entries))
      there is rest =
          stranded_row entry (ruled outcome entries)
          ∙ ap (row (is_lost entry.1) entry.0) rest
          ∙ pushed (is_stranded_at table (ruled outcome entries) outcome.message)
          ∙ ap (left (is_stranded_at table (ruled outcome entries) outcome.message)) (sym (stranded_row entry entries))
          ∙ ap (λ (o : Option Message). left (lost_at o) (stranded_of table (entry ∷ entries)))
          (sym (cond-false (entry.0 == outcome.message) (Some entry.1) (message_of (ruled outcome entries) outcome.message) is))
        where
          pushed : (b : Bool) → row (is_lost entry.1) entry.0 (left b (stranded_of table entries)) ≡ left b (row (is_lost entry.1) entry.0 (stranded_of table entries))
          pushed true = refl
          pushed false = sym (without_row outcome.message (is_lost entry.1) entry.0 (stranded_of table entries) (differs is))

      by : (b : Bool) → (entry.0 == outcome.message) ≡ b
          → ((entry.0 == outcome.message) ≡ false → stranded_of table (ruled outcome entries) ≡ left (is_stranded_at table (ruled outcome entries) outcome.message) (stranded_of table entries))
          → stranded_of table (if b then if_held entry.0 (after entry.1) ++ entries else entry ∷ ruled outcome entries)
          ≡ left (is_stranded_at table (if b then if_held entry.0 (after entry.1) ++ entries else entry ∷ ruled outcome entries) outcome.message) (stranded_of table (entry ∷ entries))
      by true is rest = here is (list_any is_held (after entry.1).places) refl
      by false is rest = there is (rest is)

map_append : {A B : Type 0} (f : A → B) (xs ys : List A) → map f (xs ++ ys) ≡ map f xs ++ map f ys
map_append f [] ys = refl
map_append {A} {B} f (x ∷ xs) ys = ap (λ (l : List B). f x ∷ l) (map_append f xs ys)

pub numbers_append : (table : RouteTable) (entries more : List (ℕ × Message)) → stranded_of table (entries ++ more) ≡ stranded_of table entries ++ stranded_of table more
numbers_append table entries more =
    ap (map (λ (e : ℕ × Message). e.0)) (filter-append (λ (e : ℕ × Message). is_any (stranded_places table e.1)) entries more)
    ∙ map_append (λ (e : ℕ × Message). e.0) (filter (λ (e : ℕ × Message). is_any (stranded_places table e.1)) entries) (filter (λ (e : ℕ × Message). is_any (stranded_places table e.1)) more)

module _ (table : RouteTable) (outcome : Outcome) (queue : Queue) (rise : Rise 0 queue.next queue.messages) (message : Message)
    (found : message_of queue.messages outcome.message ≡ Some message) (rulings : AreRulings message.places 0 outcome.rulings) where
  abbrev ruled_on : List (ℕ × Message)
  ruled_on = ruled outcome queue.messages

  abbrev added : List (ℕ × Message)
  added = reported queue.next outcome outcome.report (message_of queue.messages outcome.message)

  not_itself : queue.next ≡ outcome.message → ⊥
  not_itself same = let none = none_at_next 0 queue.next queue.messages rise in none_some (sym none ∙ ap (message_of queue.messages) same ∙ found)
    where
      none_some : None ≡ Some message → ⊥
      none_some e = cc

  none_added : (report : List ℕ) (of : Option Message) → message_of (reported queue.next outcome report of) outcome.message ≡ None
  none_added [] of = refl
  none_added (octet ∷ rest) None = refl
  none_added (octet ∷ rest) (Some m) = cond-false (queue.next == outcome.message) (Some (accepted queue.next (report_of m.accept outcome))) None (ne_eqb queue.next outcome.message not_itself)

  abbrev one_if : Bool → ℕ → List ℕ
  one_if b n = if b then n ∷ [] else []

  added_numbers : (report : List ℕ) (of : Option Message) → stranded_of table (reported queue.next outcome report of) ≡ one_if (is_stranded_at table (reported queue.next outcome report of) queue.next) queue.next
  added_numbers [] of = refl
  added_numbers (octet ∷ rest) None = refl
  added_numbers (octet ∷ rest) (Some m) =
      stranded_row table outcome (queue.next, accepted queue.next (report_of m.accept outcome)) []
      ∙ by (is_any (stranded_places table (accepted queue.next (report_of m.accept outcome))))
      ∙ ap (λ (o : Option Message). one_if (option_map_or (λ m. is_any (stranded_places table m)) o false) queue.next)
      (sym (cond-true (queue.next == queue.next) (Some (accepted queue.next (report_of m.accept outcome))) None (eq-eqb queue.next queue.next refl)))
    where
      by : (b : Bool) → cond b (queue.next ∷ []) [] ≡ one_if b queue.next
      by true = refl
      by false = refl

  are_rulings : (m : Message) → message_of queue.messages outcome.message ≡ Some m → AreRulings m.places 0 outcome.rulings
  are_rulings m is = subst (λ (x : Message). AreRulings x.places 0 outcome.rulings) (same (sym found ∙ is)) rulings
    where
      same : Some message ≡ Some m → message ≡ m
      same e = cc

  -- the numbers after an outcome
  step_numbers : stranded_of table (ruled_on ++ added)
      ≡ left table outcome (is_stranded_at table (ruled_on ++ added) outcome.message) (stranded_of table queue.messages) ++ one_if (is_stranded_at table (ruled_on ++ added) queue.next) queue.next
  step_numbers =
      numbers_append table ruled_on added
      ∙ ap (λ (l : List ℕ). l ++ stranded_of table added) (ruled_numbers table outcome 0 queue.next queue.messages rise are_rulings)
      ∙ ap (λ (l : List ℕ). left table outcome (is_stranded_at table ruled_on outcome.message) (stranded_of table queue.messages) ++ l)
      (added_numbers outcome.report (message_of queue.messages outcome.message))
      ∙ ap (λ (o : Option Message). left table outcome (lost_at table outcome o) (stranded_of table queue.messages) ++ one_if (is_stranded_at table added queue.next) queue.next)
      (sym (found_before ruled_on added outcome.message (none_added outcome.report (message_of queue.messages outcome.message))))
      ∙ ap (λ (o : Option Message). left table outcome (is_stranded_at table (ruled_on ++ added) outcome.message) (stranded_of table queue.messages) ++ one_if (lost_at table outcome o) queue.next)
      (sym (found_last ruled_on added queue.next (ruled_none_at_next outcome 0 queue.next queue.messages rise)))

  -- what is noted after it is what is stranded
  pub known_after : (new : Queue) (number : ℕ) (old mid all : List ℕ) → new ≡ step queue (change.Outcome outcome) → number ≡ queue.next → old ≡ stranded_of table queue.messages
      → mid ≡ (if is_stranded_at table new.messages outcome.message then old else without outcome.message old)
      → all ≡ mid ++ (if is_stranded_at table new.messages number then number ∷ [] else []) → all ≡ stranded_of table new.messages
  known_after new number old mid all new_is number_is old_is mid_is all_is =
      all_is
      ∙ ap (λ (l : List ℕ). l ++ one_if (is_stranded_at table new.messages number) number) mid_is
      ∙ ap (λ (l : List ℕ). left table outcome (is_stranded_at table new.messages outcome.message) l ++ one_if (is_stranded_at table new.messages number) number) old_is
      ∙ ap (λ (n : ℕ). left table outcome (is_stranded_at table new.messages outcome.message) (stranded_of table queue.messages) ++ one_if (is_stranded_at table new.messages n) n) number_is
      ∙ ap (λ (q : Queue). left table outcome (is_stranded_at table q.messages outcome.message) (stranded_of table queue.messages) ++ one_if (is_stranded_at table q.messages queue.next) queue.next) new_is
      ∙ sym step_numbers
      ∙ ap (λ (q : Queue). stranded_of table q.messages) (sym new_is)

-- the message that an outcome rules on
pub ruled_message : (queue : Queue) (outcome : Outcome) → MatchOption (message_of queue.messages outcome.message) ⊥ (RulesOn outcome)
    → (message : Message) × (message_of queue.messages outcome.message ≡ Some message) × AreRulings message.places 0 outcome.rulings
ruled_message queue outcome comes = by (message_of queue.messages outcome.message) refl comes
  where
    by : (found : Option Message) → message_of queue.messages outcome.message ≡ found → MatchOption found ⊥ (RulesOn outcome)
        → (message : Message) × (message_of queue.messages outcome.message ≡ Some message) × AreRulings message.places 0 outcome.rulings
    by None is none = absurd none
    by (Some message) is rules = (message, is, rules.rulings)
