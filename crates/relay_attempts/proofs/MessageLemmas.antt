-- What an outcome leaves of the queued messages.
use Rattle.std.proofs.Common.{◌≡◌, ◌⊎◌, inl, inr, ℕ, zero, suc, ◌+◌, ◌≤◌, ◌==◌, ◌||◌, Bool, true, false, List, [], ◌∷◌, ◌++◌, slice_get, Option, None, Some, refl, sym, ap, ◌∙◌, subst, arith, if◌then◌else◌}
use Rattle.std.specs.Prelude.{slice_set}
use Rattle.std.specs.List.{list_any}
use Rattle.std.specs.Option.{option_map_or}
use Rattle.std.proofs.lemmas.Bool.{cases_eq, cond-true, cond-false, eq-eqb, ne_eqb, false≢true}
use Rattle.relay_book.specs.declared.version.Version.{Version}
use Rattle.relay_book.specs.declared.change.Accept.{Accept}
use Rattle.relay_book.specs.declared.change.Outcome.{Outcome}
use Rattle.relay_book.specs.declared.change.Ruling.{Ruling}
use Rattle.relay_book.specs.declared.message.Message.{Message}
use Rattle.relay_book.specs.declared.message.Place.{Place}
use Rattle.relay_book.specs.Book.{Rise}
use Rattle.relay_book.specs.Queue.{AreRulings, holds_at, if_held, is_held, message_after, message_of, place_ruled, places_after, places_ruled, ruled}

-- a write to another place
set_other : {A : Type 0} (xs : List A) (i j : ℕ) (x : A) → (i ≡ j → ⊥) → slice_get (slice_set xs i x) j ≡ slice_get xs j
set_other [] i j x off = refl
set_other (y ∷ xs) zero zero x off = absurd (off refl)
set_other (y ∷ xs) zero (suc j) x off = refl
set_other (y ∷ xs) (suc i) zero x off = refl
set_other (y ∷ xs) (suc i) (suc j) x off = set_other xs i j x (λ same. off (ap suc same))

-- a place is ruled on
abbrev pub is_ruled : List Ruling → ℕ → Bool
is_ruled rulings place = list_any (λ (ruling : Ruling). ruling.place == place) rulings

-- one that isn't stays
pub place_stays : (version : Version) (accept : Accept) (at : ℕ) (places : List Place) (rulings : List Ruling) (place : ℕ) → is_ruled rulings place ≡ false
    → slice_get (places_ruled version accept at places rulings) place ≡ slice_get places place
place_stays version accept at places [] place out = refl
place_stays version accept at places (ruling ∷ rulings) place out =
    by (ruling.place == place) refl (place_stays version accept at (places_after version accept at places ruling) rulings place)
  where
    one : (ruling.place == place) ≡ false → (found : Option Place)
        → slice_get (option_map_or (λ (p : Place). slice_set places ruling.place (place_ruled version accept at p ruling)) found places) place ≡ slice_get places place
    one off None = refl
    one off (Some p) =
        set_other places ruling.place place (place_ruled version accept at p ruling)
        (λ same. false≢true (sym off ∙ eq-eqb ruling.place place same))

    by : (b : Bool) → (ruling.place == place) ≡ b
        → (is_ruled rulings place ≡ false → slice_get (places_ruled version accept at (places_after version accept at places ruling) rulings) place ≡ slice_get (places_after version accept at places ruling) place)
        → slice_get (places_ruled version accept at (places_after version accept at places ruling) rulings) place ≡ slice_get places place
    by true is rest = absurd (false≢true (sym out ∙ ap (λ (b : Bool). b || is_ruled rulings place) is))
    by false is rest =
        rest (ap (λ (b : Bool). b || is_ruled rulings place) (sym is) ∙ out)
        ∙ one is (slice_get places ruling.place)

-- one that is was held
ruled_was_held : (places : List Place) (least : ℕ) (rulings : List Ruling) (place : ℕ) → AreRulings places least rulings → is_ruled rulings place ≡ true → holds_at places place ≡ true
ruled_was_held places least [] place are out = absurd (false≢true out)
ruled_was_held places least (ruling ∷ rulings) place are out = by (cases_eq ruling.place place) (ruled_was_held places (ruling.place + 1) rulings place are.2)
  where
    by : (ruling.place ≡ place) ⊎ (ruling.place ≡ place → ⊥) → (is_ruled rulings place ≡ true → holds_at places place ≡ true) → holds_at places place ≡ true
    by (inl same) rest = subst (λ n. holds_at places n ≡ true) same are.1
    by (inr off) rest = rest (ap (λ (b : Bool). b || is_ruled rulings place) (sym (ne_eqb ruling.place place off)) ∙ out)

-- what is held after an outcome was held before it
pub was_held : (version : Version) (accept : Accept) (at : ℕ) (places : List Place) (rulings : List Ruling) (place : ℕ) → AreRulings places 0 rulings
    → holds_at (places_ruled version accept at places rulings) place ≡ true → holds_at places place ≡ true
was_held version accept at places rulings place are held = by (is_ruled rulings place) refl
  where
    by : (b : Bool) → is_ruled rulings place ≡ b → holds_at places place ≡ true
    by true is = ruled_was_held places 0 rulings place are is
    by false is = ap (λ (o : Option Place). option_map_or is_held o false) (sym (place_stays version accept at places rulings place is)) ∙ held

-- the message of another number
pub other_stays : (outcome : Outcome) (entries : List (ℕ × Message)) (number : ℕ) → (number ≡ outcome.message → ⊥) → message_of (ruled outcome entries) number ≡ message_of entries number
other_stays outcome [] number off = refl
other_stays outcome (entry ∷ entries) number off =
    by (entry.0 == outcome.message) refl (list_any is_held (message_after outcome entry.1).places) (other_stays outcome entries number off)
  where
    not_here : (entry.0 == outcome.message) ≡ true → (entry.0 == number) ≡ false
    not_here is = ne_eqb entry.0 number (λ same. by_case (cases_eq entry.0 outcome.message) same)
      where
        by_case : (entry.0 ≡ outcome.message) ⊎ (entry.0 ≡ outcome.message → ⊥) → entry.0 ≡ number → ⊥
        by_case (inl at) same = off (sym same ∙ at)
        by_case (inr out) same = false≢true (sym (ne_eqb entry.0 outcome.message out) ∙ is)

    by : (here : Bool) → (entry.0 == outcome.message) ≡ here → (held : Bool) → message_of (ruled outcome entries) number ≡ message_of entries number
        → message_of (if here then (if held then (entry.0, message_after outcome entry.1) ∷ [] else []) ++ entries else entry ∷ ruled outcome entries) number
        ≡ (if entry.0 == number then Some entry.1 else message_of entries number)
    by true is true rest =
        cond-false (entry.0 == number) (Some (message_after outcome entry.1)) (message_of entries number) (not_here is)
        ∙ sym (cond-false (entry.0 == number) (Some entry.1) (message_of entries number) (not_here is))
    by true is false rest = sym (cond-false (entry.0 == number) (Some entry.1) (message_of entries number) (not_here is))
    by false is held rest = ap (λ (o : Option Message). if entry.0 == number then Some entry.1 else o) rest

none_some : {A : Type 0} (x : A) → None ≡ Some x → ⊥
none_some x e = cc

some_is : {A : Type 0} (x y : A) → Some x ≡ Some y → x ≡ y
some_is x y e = cc

-- the message that an outcome is for, while a place of it is held
pub same_ruled : (outcome : Outcome) (entries : List (ℕ × Message)) (message : Message) → message_of entries outcome.message ≡ Some message
    → list_any is_held (message_after outcome message).places ≡ true → message_of (ruled outcome entries) outcome.message ≡ Some (message_after outcome message)
same_ruled outcome [] message found held = absurd (none_some message found)
same_ruled outcome (entry ∷ entries) message found held = by (entry.0 == outcome.message) refl (same_ruled outcome entries message)
  where
    it : (entry.0 == outcome.message) ≡ true → entry.1 ≡ message
    it is = some_is entry.1 message (sym (cond-true (entry.0 == outcome.message) (Some entry.1) (message_of entries outcome.message) is) ∙ found)

    kept : (entry.0 == outcome.message) ≡ true → (b : Bool) → list_any is_held (message_after outcome entry.1).places ≡ b
        → message_of ((if b then (entry.0, message_after outcome entry.1) ∷ [] else []) ++ entries) outcome.message ≡ Some (message_after outcome message)
    kept is true h =
        cond-true (entry.0 == outcome.message) (Some (message_after outcome entry.1)) (message_of entries outcome.message) is
        ∙ ap (λ (m : Message). Some (message_after outcome m)) (it is)
    kept is false h = absurd (false≢true (sym h ∙ ap (λ (m : Message). list_any is_held (message_after outcome m).places) (it is) ∙ held))

    by : (here : Bool) → (entry.0 == outcome.message) ≡ here
        → (message_of entries outcome.message ≡ Some message → list_any is_held (message_after outcome message).places ≡ true → message_of (ruled outcome entries) outcome.message ≡ Some (message_after outcome message))
        → message_of (if here then if_held entry.0 (message_after outcome entry.1) ++ entries else entry ∷ ruled outcome entries) outcome.message ≡ Some (message_after outcome message)
    by true is rest = kept is (list_any is_held (message_after outcome entry.1).places) refl
    by false is rest =
        cond-false (entry.0 == outcome.message) (Some entry.1) (message_of (ruled outcome entries) outcome.message) is
        ∙ rest (sym (cond-false (entry.0 == outcome.message) (Some entry.1) (message_of entries outcome.message) is) ∙ found) held

-- messages after others
pub found_first : (entries more : List (ℕ × Message)) (number : ℕ) (message : Message) → message_of entries number ≡ Some message → message_of (entries ++ more) number ≡ Some message
found_first [] more number message found = absurd (none_some message found)
found_first (entry ∷ entries) more number message found = by (entry.0 == number) (found_first entries more number message) found
  where
    by : (b : Bool) → (message_of entries number ≡ Some message → message_of (entries ++ more) number ≡ Some message)
        → (if b then Some entry.1 else message_of entries number) ≡ Some message → (if b then Some entry.1 else message_of (entries ++ more) number) ≡ Some message
    by true rest is = is
    by false rest is = rest is

pub found_last : (entries more : List (ℕ × Message)) (number : ℕ) → message_of entries number ≡ None → message_of (entries ++ more) number ≡ message_of more number
found_last [] more number none = refl
found_last (entry ∷ entries) more number none = by (entry.0 == number) (found_last entries more number) none
  where
    by : (b : Bool) → (message_of entries number ≡ None → message_of (entries ++ more) number ≡ message_of more number)
        → (if b then Some entry.1 else message_of entries number) ≡ None → (if b then Some entry.1 else message_of (entries ++ more) number) ≡ message_of more number
    by true rest is = absurd (none_some entry.1 (sym is))
    by false rest is = rest is

pub found_before : (entries more : List (ℕ × Message)) (number : ℕ) → message_of more number ≡ None → message_of (entries ++ more) number ≡ message_of entries number
found_before [] more number none = none
found_before (entry ∷ entries) more number none = ap (λ (o : Option Message). if entry.0 == number then Some entry.1 else o) (found_before entries more number none)

-- no message has the next number
least_below : (least next : ℕ) (entries : List (ℕ × Message)) → Rise least next entries → least ≤ next
least_below least next [] rise = rise
least_below least next (entry ∷ entries) rise = let rest = least_below (suc entry.0) next entries rise.1 in omega (arith, rest, rise.0)

not_next : (least next : ℕ) (entry : ℕ × Message) (entries : List (ℕ × Message)) → Rise least next (entry ∷ entries) → (entry.0 == next) ≡ false
not_next least next entry entries rise = let below = least_below (suc entry.0) next entries rise.1 in ne_eqb entry.0 next (λ same. omega (arith, same, below))

pub none_at_next : (least next : ℕ) (entries : List (ℕ × Message)) → Rise least next entries → message_of entries next ≡ None
none_at_next least next [] rise = refl
none_at_next least next (entry ∷ entries) rise =
    cond-false (entry.0 == next) (Some entry.1) (message_of entries next) (not_next least next entry entries rise) ∙ none_at_next (suc entry.0) next entries rise.1

pub ruled_none_at_next : (outcome : Outcome) (least next : ℕ) (entries : List (ℕ × Message)) → Rise least next entries → message_of (ruled outcome entries) next ≡ None
ruled_none_at_next outcome least next [] rise = refl
ruled_none_at_next outcome least next (entry ∷ entries) rise =
    by (entry.0 == outcome.message) (list_any is_held (message_after outcome entry.1).places) (ruled_none_at_next outcome (suc entry.0) next entries rise.1)
  where
    by : (here held : Bool) → message_of (ruled outcome entries) next ≡ None
        → message_of (if here then (if held then (entry.0, message_after outcome entry.1) ∷ [] else []) ++ entries else entry ∷ ruled outcome entries) next ≡ None
    by true true rest =
        cond-false (entry.0 == next) (Some (message_after outcome entry.1)) (message_of entries next) (not_next least next entry entries rise)
        ∙ none_at_next (suc entry.0) next entries rise.1
    by true false rest = none_at_next (suc entry.0) next entries rise.1
    by false held rest = cond-false (entry.0 == next) (Some entry.1) (message_of (ruled outcome entries) next) (not_next least next entry entries rise) ∙ rest
