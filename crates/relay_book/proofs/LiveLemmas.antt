-- The messages of a map's entries that haven't ended.
use Rattle.std.proofs.Common.{◌≡◌, ◌⊎◌, inl, inr, ℕ, suc, ◌+◌, ◌≤◌, ◌==◌, Bool, true, false, cond, List, [], ◌∷◌, ◌++◌, Option, None, Some, is_some, refl, sym, ap, ◌∙◌, arith, if◌then◌else◌, nat_eq, filter, append_assoc}
use Rattle.std.specs.List.{list_any}
use Rattle.std.specs.Map.{lookup, set_value}
use Rattle.std.proofs.lemmas.Bool.{cond-true, cond-false, cases_eq, eq-eqb, ne_eqb}
use Rattle.indexmap.specs.IndexMap.{insert_entry}
use Rattle.relay_book.specs.declared.change.Outcome.{Outcome as OutcomeFields}
use Rattle.relay_book.specs.declared.message.Message.{Message}
use Rattle.relay_book.specs.Queue.{if_held, is_held, message_after, message_of, ruled}
use Rattle.relay_book.specs.Book.{Rise, if_there, is_there, kept, live, slot_after}
use Rattle.relay_book.proofs.PlaceLemmas.{none_some, some_is}
use Rattle.relay_book.proofs.EntryLemmas.{none_before, ruled_at, ruled_past}

-- numbers that rise
pub least_below : {A : Type 0} (least next : ℕ) (entries : List (ℕ × A)) → Rise least next entries → least ≤ next
least_below least next [] rise = rise
least_below least next (entry ∷ entries) rise = let rest = least_below (suc entry.0) next entries rise.1 in omega (arith, rest, rise.0)

lower : {A : Type 0} (less least next : ℕ) (entries : List (ℕ × A)) → less ≤ least → Rise least next entries → Rise less next entries
lower less least next [] below rise = omega (arith, below, rise)
lower less least next (entry ∷ entries) below rise = (omega (arith, below, rise.0), rise.1)

pub rise_next : {A : Type 0} (least next : ℕ) (entries : List (ℕ × A)) → Rise least next entries → Rise least (next + 1) entries
rise_next least next [] rise = omega (arith, rise)
rise_next least next (entry ∷ entries) rise = (rise.0, rise_next (suc entry.0) next entries rise.1)

pub rise_to : {A : Type 0} (least next number : ℕ) (entries : List (ℕ × A)) → Rise least next entries → next ≤ number → Rise least number entries
rise_to least next number [] rise up = omega (arith, rise, up)
rise_to least next number (entry ∷ entries) rise up = (rise.0, rise_to (suc entry.0) next number entries rise.1 up)

pub rise_last : {A : Type 0} (least next : ℕ) (entries : List (ℕ × A)) (value : A) → Rise least next entries → Rise least (next + 1) (entries ++ (next, value) ∷ [])
rise_last least next [] value rise = (rise, omega arith)
rise_last least next (entry ∷ entries) value rise = (rise.0, rise_last (suc entry.0) next entries value rise.1)

pub rise_set : {A : Type 0} (least next number : ℕ) (entries : List (ℕ × A)) (value : A) → Rise least next entries → Rise least next (set_value (nat_eq number) entries value)
rise_set least next number [] value rise = rise
rise_set {A} least next number (entry ∷ entries) value rise = by (rise_set (suc entry.0) next number entries value rise.1) (nat_eq number entry.0)
  where
    by : Rise (suc entry.0) next (set_value (nat_eq number) entries value) → (test : Bool) → Rise least next (cond test ((entry.0, value) ∷ entries) (entry ∷ set_value (nat_eq number) entries value))
    by rest true = (rise.0, rise.1)
    by rest false = (rise.0, rest)

-- a new number goes last
pub new_last : {A : Type 0} (least next : ℕ) (value : A) (entries : List (ℕ × A)) → Rise least next entries → insert_entry nat_eq entries next value ≡ entries ++ (next, value) ∷ []
new_last least next value [] rise = refl
new_last {A} least next value (entry ∷ entries) rise =
    let below = least_below (suc entry.0) next entries rise.1 in
    cond-false (nat_eq next entry.0) _ _ (ne_eqb next entry.0 (λ same. omega (arith, same, below)))
    ∙ ap (λ (xs : List (ℕ × A)). entry ∷ xs) (new_last (suc entry.0) next value entries rise.1)

pub live_last : (entries : List (ℕ × Option Message)) (number : ℕ) (message : Message) → live (entries ++ (number, Some message) ∷ []) ≡ live entries ++ (number, message) ∷ []
live_last [] number message = refl
live_last (entry ∷ entries) number message =
    ap (λ (l : List (ℕ × Message)). if_there entry.0 entry.1 ++ l) (live_last entries number message)
    ∙ sym (append_assoc (if_there entry.0 entry.1) (live entries) ((number, message) ∷ []))

pub rise_live : (least next : ℕ) (entries : List (ℕ × Option Message)) → Rise least next entries → Rise least next (live entries)
rise_live least next [] rise = rise
rise_live least next (entry ∷ entries) rise = by (rise_live (suc entry.0) next entries rise.1) entry.1
  where
    by : Rise (suc entry.0) next (live entries) → (slot : Option Message) → Rise least next (if_there entry.0 slot ++ live entries)
    by rest None = lower least (suc entry.0) next (live entries) (omega (arith, rise.0)) rest
    by rest (Some message) = (rise.0, rest)

-- what an entry holds
abbrev pub flat : Option (Option Message) → Option Message
flat None = None
flat (Some slot) = slot

pub live_lookup : (least next : ℕ) (entries : List (ℕ × Option Message)) (number : ℕ) → Rise least next entries → message_of (live entries) number ≡ flat (lookup (nat_eq number) entries)
live_lookup least next [] number rise = refl
live_lookup least next (entry ∷ entries) number rise = by (live_lookup (suc entry.0) next entries number rise.1) (cases_eq entry.0 number)
  where
    here : entry.0 ≡ number → (slot : Option Message) → message_of (if_there entry.0 slot ++ live entries) number ≡ slot
    here same None = none_before (suc entry.0) next (live entries) number (rise_live (suc entry.0) next entries rise.1) (omega (arith, same))
    here same (Some message) = cond-true (entry.0 == number) (Some message) (message_of (live entries) number) (eq-eqb entry.0 number same)

    past : (entry.0 ≡ number → ⊥) → (slot : Option Message) → message_of (if_there entry.0 slot ++ live entries) number ≡ message_of (live entries) number
    past off None = refl
    past off (Some message) = cond-false (entry.0 == number) (Some message) (message_of (live entries) number) (ne_eqb entry.0 number off)

    by : message_of (live entries) number ≡ flat (lookup (nat_eq number) entries) → (entry.0 ≡ number) ⊎ (entry.0 ≡ number → ⊥)
        → message_of (if_there entry.0 entry.1 ++ live entries) number ≡ flat (cond (nat_eq number entry.0) (Some entry.1) (lookup (nat_eq number) entries))
    by more (inl same) = here same entry.1 ∙ sym (ap flat (cond-true (nat_eq number entry.0) (Some entry.1) (lookup (nat_eq number) entries) (eq-eqb number entry.0 (sym same))))
    by more (inr off) =
        past off entry.1 ∙ more
        ∙ sym (ap flat (cond-false (nat_eq number entry.0) (Some entry.1) (lookup (nat_eq number) entries) (ne_eqb number entry.0 (λ same. off (sym same)))))

-- an outcome for a message that isn't there
pub ruled_none : (outcome : OutcomeFields) (entries : List (ℕ × Message)) → message_of entries outcome.message ≡ None → ruled outcome entries ≡ entries
ruled_none outcome [] none = refl
ruled_none outcome (entry ∷ entries) none = by (ruled_none outcome entries) (cases_eq entry.0 outcome.message)
  where
    by : (message_of entries outcome.message ≡ None → ruled outcome entries ≡ entries) → (entry.0 ≡ outcome.message) ⊎ (entry.0 ≡ outcome.message → ⊥) → ruled outcome (entry ∷ entries) ≡ entry ∷ entries
    by more (inl same) = absurd (none_some entry.1 (sym none ∙ cond-true (entry.0 == outcome.message) (Some entry.1) (message_of entries outcome.message) (eq-eqb entry.0 outcome.message same)))
    by more (inr off) =
        ruled_past outcome entry entries off
        ∙ ap (λ (l : List (ℕ × Message)). entry ∷ l) (more (sym (cond-false (entry.0 == outcome.message) (Some entry.1) (message_of entries outcome.message) (ne_eqb entry.0 outcome.message off)) ∙ none))

pub live_absent : (outcome : OutcomeFields) (least next : ℕ) (entries : List (ℕ × Option Message)) → Rise least next entries
    → lookup (nat_eq outcome.message) entries ≡ None → live entries ≡ ruled outcome (live entries)
live_absent outcome least next entries rise none = sym (ruled_none outcome (live entries) (live_lookup least next entries outcome.message rise ∙ ap flat none))

-- what is kept of a message
if_there_kept : (number : ℕ) (message : Message) → if_there number (kept message) ≡ if_held number message
if_there_kept number message = by (list_any is_held message.places)
  where
    by : (test : Bool) → if_there number (if test then Some message else None) ≡ (if test then (number, message) ∷ [] else [])
    by true = refl
    by false = refl

-- an outcome, written into the map
pub live_ruled : (outcome : OutcomeFields) (least next : ℕ) (entries : List (ℕ × Option Message)) (slot : Option Message) → Rise least next entries
    → lookup (nat_eq outcome.message) entries ≡ Some slot → live (set_value (nat_eq outcome.message) entries (slot_after outcome slot)) ≡ ruled outcome (live entries)
live_ruled outcome least next [] slot rise found = absurd (none_some slot found)
live_ruled outcome least next (entry ∷ entries) slot rise found = by (live_ruled outcome (suc entry.0) next entries slot rise.1) (cases_eq entry.0 outcome.message)
  where
    written : List (ℕ × Option Message)
    written = set_value (nat_eq outcome.message) entries (slot_after outcome slot)

    here : entry.0 ≡ outcome.message → (old : Option Message) → if_there entry.0 (slot_after outcome old) ++ live entries ≡ ruled outcome (if_there entry.0 old ++ live entries)
    here same None = sym (ruled_none outcome (live entries) (none_before (suc entry.0) next (live entries) outcome.message (rise_live (suc entry.0) next entries rise.1) (omega (arith, same))))
    here same (Some message) =
        ap (λ (l : List (ℕ × Message)). l ++ live entries) (if_there_kept entry.0 (message_after outcome message))
        ∙ sym (ruled_at outcome (entry.0, message) (live entries) same)

    past : (entry.0 ≡ outcome.message → ⊥) → live (set_value (nat_eq outcome.message) entries (slot_after outcome slot)) ≡ ruled outcome (live entries) → (old : Option Message)
        → if_there entry.0 old ++ live (set_value (nat_eq outcome.message) entries (slot_after outcome slot)) ≡ ruled outcome (if_there entry.0 old ++ live entries)
    past off rest None = rest
    past off rest (Some message) = ap (λ (l : List (ℕ × Message)). (entry.0, message) ∷ l) rest ∙ sym (ruled_past outcome (entry.0, message) (live entries) off)

    by : (lookup (nat_eq outcome.message) entries ≡ Some slot → live (set_value (nat_eq outcome.message) entries (slot_after outcome slot)) ≡ ruled outcome (live entries))
        → (entry.0 ≡ outcome.message) ⊎ (entry.0 ≡ outcome.message → ⊥)
        → live (set_value (nat_eq outcome.message) (entry ∷ entries) (slot_after outcome slot)) ≡ ruled outcome (if_there entry.0 entry.1 ++ live entries)
    by more (inl same) =
        let on = eq-eqb outcome.message entry.0 (sym same) in
        let it = some_is entry.1 slot (sym (cond-true (nat_eq outcome.message entry.0) (Some entry.1) (lookup (nat_eq outcome.message) entries) on) ∙ found) in
        ap live (cond-true (nat_eq outcome.message entry.0) ((entry.0, slot_after outcome slot) ∷ entries) (entry ∷ set_value (nat_eq outcome.message) entries (slot_after outcome slot)) on)
        ∙ ap (λ (o : Option Message). if_there entry.0 (slot_after outcome o) ++ live entries) (sym it)
        ∙ here same entry.1
    by more (inr off) =
        let out = ne_eqb outcome.message entry.0 (λ same. off (sym same)) in
        ap live (cond-false (nat_eq outcome.message entry.0) ((entry.0, slot_after outcome slot) ∷ entries) (entry ∷ set_value (nat_eq outcome.message) entries (slot_after outcome slot)) out)
        ∙ past off (more (sym (cond-false (nat_eq outcome.message entry.0) (Some entry.1) (lookup (nat_eq outcome.message) entries) out) ∙ found)) entry.1

-- the others cleared away
pub live_filter : (entries : List (ℕ × Option Message)) → live (filter is_there entries) ≡ live entries
live_filter [] = refl
live_filter (entry ∷ entries) = by entry.1 (live_filter entries)
  where
    by : (slot : Option Message) → live (filter is_there entries) ≡ live entries
        → live (cond (is_some slot) ((entry.0, slot) ∷ filter is_there entries) (filter is_there entries)) ≡ if_there entry.0 slot ++ live entries
    by None rest = rest
    by (Some message) rest = ap (λ (l : List (ℕ × Message)). (entry.0, message) ∷ l) rest

pub rise_filter : (least next : ℕ) (entries : List (ℕ × Option Message)) → Rise least next entries → Rise least next (filter is_there entries)
rise_filter least next [] rise = rise
rise_filter least next (entry ∷ entries) rise = by entry.1 (rise_filter (suc entry.0) next entries rise.1)
  where
    by : (slot : Option Message) → Rise (suc entry.0) next (filter is_there entries) → Rise least next (cond (is_some slot) ((entry.0, slot) ∷ filter is_there entries) (filter is_there entries))
    by None rest = lower least (suc entry.0) next (filter is_there entries) (omega (arith, rise.0)) rest
    by (Some message) rest = (rise.0, rest)

-- a message that is added at the end
pub ruleset pushed_last = (new_last, live_last, rise_last)

-- entries of which one is ruled, or none
pub ruleset ruled_entries = (live_absent, live_ruled, rise_set)

-- entries of which those are kept that are queued
pub ruleset kept_entries = (live_filter, rise_filter)
