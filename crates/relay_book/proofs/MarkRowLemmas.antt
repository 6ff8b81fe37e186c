-- The marks of a map's entries, one after another.
use Rattle.std.proofs.Common.{◌≡◌, ℕ, zero, suc, ◌+◌, ◌≤◌, Bool, true, false, cond, if◌then◌else◌, List, [], ◌∷◌, ◌++◌, drop, length, map, slice_get, Option, None, Some, refl, sym, ap, ◌∙◌, arith, append_assoc, append-nil, add-one}
use Rattle.std.specs.List.{filter, flat_map}
use Rattle.relay_book.specs.declared.message.Place.{Place}
use Rattle.relay_book.specs.declared.message.Message.{Message}
use Rattle.relay_book.specs.Queue.{marks_of_entry}
use Rattle.relay_book.specs.Book.{if_there, live, marks_live, marks_of_slot, number_of_slot, numbers_live}
use Rattle.relay_book.proofs.PlaceLemmas.{none_some, some_is}

-- the entry at a place, and those after it
pub entry_at : (entries : List (ℕ × Option Message)) (index : ℕ) (entry : ℕ × Option Message) → slice_get entries index ≡ Some entry → drop index entries ≡ entry ∷ drop (suc index) entries
entry_at [] index entry is = absurd (none_some entry is)
entry_at (first ∷ entries) zero entry is = ap (λ (e : ℕ × Option Message). e ∷ entries) (some_is first entry is)
entry_at (first ∷ entries) (suc index) entry is = entry_at entries index entry is

marks_split : (test : Place → Bool) (entry : ℕ × Option Message) (entries : List (ℕ × Option Message)) → marks_live test (entry ∷ entries) ≡ marks_of_slot test entry.0 entry.1 ++ marks_live test entries
marks_split test entry entries = by entry.1
  where
    by : (slot : Option Message) → flat_map (marks_of_entry test) (if_there entry.0 slot ++ live entries) ≡ marks_of_slot test entry.0 slot ++ marks_live test entries
    by None = refl
    by (Some message) = refl

-- one entry more
pub marks_step : (test : Place → Bool) (entries : List (ℕ × Option Message)) (index number : ℕ) (slot : Option Message) (old new all : List (ℕ × ℕ))
    → Some (number, slot) ≡ slice_get entries index → old ++ marks_live test (drop index entries) ≡ all → new ≡ old ++ marks_of_slot test number slot
    → new ++ marks_live test (drop (index + 1) entries) ≡ all
marks_step test entries index number slot old new all is before new_is =
    ap (λ (l : List (ℕ × ℕ)). l ++ marks_live test (drop (index + 1) entries)) new_is
    ∙ append_assoc old (marks_of_slot test number slot) (marks_live test (drop (index + 1) entries))
    ∙ ap (λ n. old ++ (marks_of_slot test number slot ++ marks_live test (drop n entries))) (add-one index)
    ∙ ap (λ (l : List (ℕ × ℕ)). old ++ l) (sym (marks_split test (number, slot) (drop (suc index) entries)))
    ∙ ap (λ (l : List (ℕ × Option Message)). old ++ marks_live test l) (sym (entry_at entries index (number, slot) (sym is)))
    ∙ before

pub drop_past : (entries : List (ℕ × Option Message)) (index : ℕ) → length entries ≤ index → drop index entries ≡ []
drop_past [] zero past = refl
drop_past [] (suc index) past = refl
drop_past (entry ∷ entries) zero past = absurd (omega (arith, past))
drop_past (entry ∷ entries) (suc index) past = drop_past entries index (omega (arith, past))

-- after the last entry
pub marks_end : (test : Place → Bool) (entries : List (ℕ × Option Message)) (index : ℕ) (marks all : List (ℕ × ℕ)) → length entries ≤ index → marks ++ marks_live test (drop index entries) ≡ all → marks ≡ all
marks_end test entries index marks all past before =
    sym (append-nil marks) ∙ ap (λ (l : List (ℕ × Option Message)). marks ++ marks_live test l) (sym (drop_past entries index past)) ∙ before

numbers_split : (test : Message → Bool) (entry : ℕ × Option Message) (entries : List (ℕ × Option Message)) → numbers_live test (entry ∷ entries) ≡ number_of_slot test entry.0 entry.1 ++ numbers_live test entries
numbers_split test entry entries = by entry.1
  where
    kept : (number : ℕ) (b : Bool) (message : Message)
        → map (λ (e : ℕ × Message). e.0) (cond b ((number, message) ∷ filter (λ (e : ℕ × Message). test e.1) (live entries)) (filter (λ (e : ℕ × Message). test e.1) (live entries)))
        ≡ (if b then number ∷ [] else []) ++ numbers_live test entries
    kept number true message = refl
    kept number false message = refl

    by : (slot : Option Message) → map (λ (e : ℕ × Message). e.0) (filter (λ (e : ℕ × Message). test e.1) (if_there entry.0 slot ++ live entries)) ≡ number_of_slot test entry.0 slot ++ numbers_live test entries
    by None = refl
    by (Some message) = kept entry.0 (test message) message

-- the number of one entry more
pub numbers_step : (test : Message → Bool) (entries : List (ℕ × Option Message)) (index number : ℕ) (slot : Option Message) (old new all : List ℕ)
    → Some (number, slot) ≡ slice_get entries index → old ++ numbers_live test (drop index entries) ≡ all → new ≡ old ++ number_of_slot test number slot
    → new ++ numbers_live test (drop (index + 1) entries) ≡ all
numbers_step test entries index number slot old new all is before new_is =
    ap (λ (l : List ℕ). l ++ numbers_live test (drop (index + 1) entries)) new_is
    ∙ append_assoc old (number_of_slot test number slot) (numbers_live test (drop (index + 1) entries))
    ∙ ap (λ n. old ++ (number_of_slot test number slot ++ numbers_live test (drop n entries))) (add-one index)
    ∙ ap (λ (l : List ℕ). old ++ l) (sym (numbers_split test (number, slot) (drop (suc index) entries)))
    ∙ ap (λ (l : List (ℕ × Option Message)). old ++ numbers_live test l) (sym (entry_at entries index (number, slot) (sym is)))
    ∙ before

-- after the last entry
pub numbers_end : (test : Message → Bool) (entries : List (ℕ × Option Message)) (index : ℕ) (numbers all : List ℕ) → length entries ≤ index → numbers ++ numbers_live test (drop index entries) ≡ all → numbers ≡ all
numbers_end test entries index numbers all past before =
    sym (append-nil numbers) ∙ ap (λ (l : List (ℕ × Option Message)). numbers ++ numbers_live test l) (sym (drop_past entries index past)) ∙ before
