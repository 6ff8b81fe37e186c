-- Which keys tell of the places.
use Rattle.std.proofs.Common.{◌≡◌, ◌⊎◌, inl, inr, ℕ, suc, ◌+◌, ◌<◌, ◌==◌, Bool, true, false, cond, List, [], ◌∷◌, ◌++◌, map, length, Option, Some, refl, sym, subst, ap, ◌∙◌, arith, if◌then◌else◌, Contains, take, get_or, add-one, take-suc}
use Rattle.std.specs.List.{list_any}
use Rattle.std.specs.Option.{option_map_or}
use Rattle.std.specs.BTreeSet.{insert_key}
use Rattle.std.specs.Set.{remove_key}
use Rattle.std.specs.Ordering.{match_ordering}
use Rattle.std.specs.declared.cmp.Ordering.{Ordering}
use Rattle.std.specs.declared.cmp.Ordering.TheVariants.{Less, Equal, Greater}
use Rattle.std.proofs.lemmas.Bool.{cond-true, cond-false, cases_eq, eq-eqb, ne_eqb, false≢true, or_parts, and_from, false_from_ne_true}
use Rattle.relay_envelope.specs.declared.envelope.Recipient.{Recipient}
use Rattle.relay_book.specs.declared.message.Place.{Place}
use Rattle.relay_book.specs.declared.message.Message.{Message}
use Rattle.relay_book.specs.declared.change.Outcome.{Outcome as OutcomeFields}
use Rattle.relay_book.specs.Queue.{accepted, held_place, if_held, is_held, message_after, message_of, ruled}
use Rattle.relay_book.proofs.EntryLemmas.{ruled_at, ruled_past}
use Rattle.relay_book.specs.Book.{Rise, IsTold, AreTold, AllTold, is_held_until}
use Rattle.relay_book.proofs.PlaceLemmas.{in_none, in_cons, head_in, tail_in, some_is}

-- keys in a list
pub insert_keeps : {K : Type 0} (cmp : K → K → Ordering) (keys : List K) (new key : K) → Contains keys key → Contains (insert_key cmp keys new) key
insert_keeps cmp [] new key h = absurd (in_none key h)
insert_keeps {K} cmp (first ∷ keys) new key h = by (cmp new first) (insert_keeps cmp keys new key) (in_cons first key keys h)
  where
    by : (order : Ordering) → (Contains keys key → Contains (insert_key cmp keys new) key) → (first ≡ key) ⊎ Contains keys key
        → Contains (match_ordering order (new ∷ first ∷ keys) (first ∷ keys) (first ∷ insert_key cmp keys new)) key
    by Less more cases = tail_in new key (first ∷ keys) h
    by Equal more cases = h
    by Greater more (inl same) = subst (λ (k : K). Contains (first ∷ insert_key cmp keys new) k) same (head_in first (insert_key cmp keys new))
    by Greater more (inr rest) = tail_in first key (insert_key cmp keys new) (more rest)

pub insert_has : {K : Type 0} (cmp : K → K → Ordering) → ((a b : K) → cmp a b ≡ Equal → a ≡ b) → (keys : List K) (new : K) → Contains (insert_key cmp keys new) new
insert_has cmp same [] new = head_in new []
insert_has {K} cmp same (first ∷ keys) new = by (cmp new first) refl (insert_has cmp same keys new)
  where
    by : (order : Ordering) → cmp new first ≡ order → Contains (insert_key cmp keys new) new
        → Contains (match_ordering order (new ∷ first ∷ keys) (first ∷ keys) (first ∷ insert_key cmp keys new)) new
    by Less e more = head_in new (first ∷ keys)
    by Equal e more = subst (λ (k : K). Contains (first ∷ keys) k) (sym (same new first e)) (head_in first keys)
    by Greater e more = tail_in first new (insert_key cmp keys new) more

pub remove_keeps : {K : Type 0} (test : K → Bool) (keys : List K) (key : K) → test key ≡ false → Contains keys key → Contains (remove_key test keys) key
remove_keeps test [] key out h = h
remove_keeps {K} test (first ∷ keys) key out h = by (test first) refl (remove_keeps test keys key out) (in_cons first key keys h)
  where
    by : (b : Bool) → test first ≡ b → (Contains keys key → Contains (remove_key test keys) key) → (first ≡ key) ⊎ Contains keys key → Contains (cond b keys (first ∷ remove_key test keys)) key
    by true e more (inl same) = absurd (false≢true (sym out ∙ sym (ap test same) ∙ e))
    by true e more (inr rest) = rest
    by false e more (inl same) = subst (λ (k : K). Contains (first ∷ remove_key test keys) k) same (head_in first (remove_key test keys))
    by false e more (inr rest) = tail_in first key (remove_key test keys) (more rest)

-- more keys tell as well
pub are_told_more : (keys more : List (ℕ × ℕ)) (number : ℕ) (places : List Place) → ((key : ℕ × ℕ) → Contains keys key → Contains more key) → AreTold keys number places → AreTold more number places
are_told_more keys more number [] has told = tt
are_told_more keys more number (place ∷ places) has told = ((λ held. has (place.due, number) (told.0 held)), are_told_more keys more number places has told.1)

pub all_told_more : (keys more : List (ℕ × ℕ)) (entries : List (ℕ × Message)) → ((key : ℕ × ℕ) → Contains keys key → Contains more key) → AllTold keys entries → AllTold more entries
all_told_more keys more [] has told = tt
all_told_more keys more (entry ∷ entries) has told = (are_told_more keys more entry.0 entry.1.places has told.0, all_told_more keys more entries has told.1)

pub all_told_insert : (cmp : ℕ × ℕ → ℕ × ℕ → Ordering) (keys more : List (ℕ × ℕ)) (new : ℕ × ℕ) (entries : List (ℕ × Message)) → more ≡ insert_key cmp keys new → AllTold keys entries → AllTold more entries
all_told_insert cmp keys more new entries is told = subst (λ (l : List (ℕ × ℕ)). AllTold l entries) (sym is) (all_told_more keys (insert_key cmp keys new) entries (insert_keeps cmp keys new) told)

pub all_told_same : (keys more : List (ℕ × ℕ)) (entries : List (ℕ × Message)) → more ≡ keys → AllTold keys entries → AllTold more entries
all_told_same keys more entries is told = subst (λ (l : List (ℕ × ℕ)). AllTold l entries) (sym is) told

pub all_told_as : (keys : List (ℕ × ℕ)) (entries others : List (ℕ × Message)) → others ≡ entries → AllTold keys entries → AllTold keys others
all_told_as keys entries others is told = subst (AllTold keys) (sym is) told

pub all_told_last : (keys : List (ℕ × ℕ)) (entries : List (ℕ × Message)) (number : ℕ) (message : Message) → AllTold keys entries → AreTold keys number message.places → AllTold keys (entries ++ (number, message) ∷ [])
all_told_last keys [] number message told new = (new, tt)
all_told_last keys (entry ∷ entries) number message told new = (told.0, all_told_last keys entries number message told.1 new)

-- of two rows of messages
pub told_front : (keys : List (ℕ × ℕ)) (entries more : List (ℕ × Message)) → AllTold keys (entries ++ more) → AllTold keys entries
told_front keys [] more told = tt
told_front keys (entry ∷ entries) more told = (told.0, told_front keys entries more told.1)

pub told_back : (keys : List (ℕ × ℕ)) (entries more : List (ℕ × Message)) → AllTold keys (entries ++ more) → AllTold keys more
told_back keys [] more told = told
told_back keys (entry ∷ entries) more told = told_back keys entries more told.1

pub told_both : (keys : List (ℕ × ℕ)) (entries more : List (ℕ × Message)) → AllTold keys entries → AllTold keys more → AllTold keys (entries ++ more)
told_both keys [] more told also = also
told_both keys (entry ∷ entries) more told also = (told.0, told_both keys entries more told.1 also)

told_if_held : (keys : List (ℕ × ℕ)) (number : ℕ) (message : Message) → AreTold keys number message.places → AllTold keys (if_held number message)
told_if_held keys number message told = by (list_any is_held message.places)
  where
    by : (test : Bool) → AllTold keys (if test then (number, message) ∷ [] else [])
    by true = (told, tt)
    by false = tt

-- after an outcome
pub told_ruled : (keys : List (ℕ × ℕ)) (outcome : OutcomeFields) (entries : List (ℕ × Message)) (message : Message) → AllTold keys entries
    → message_of entries outcome.message ≡ Some message → AreTold keys outcome.message (message_after outcome message).places → AllTold keys (ruled outcome entries)
told_ruled keys outcome [] message told found new = tt
told_ruled keys outcome (entry ∷ entries) message told found new = by (told_ruled keys outcome entries message told.1) (cases_eq entry.0 outcome.message)
  where
    by : (message_of entries outcome.message ≡ Some message → AreTold keys outcome.message (message_after outcome message).places → AllTold keys (ruled outcome entries))
        → (entry.0 ≡ outcome.message) ⊎ (entry.0 ≡ outcome.message → ⊥) → AllTold keys (ruled outcome (entry ∷ entries))
    by more (inl same) =
        let it = some_is entry.1 message (sym (cond-true (entry.0 == outcome.message) (Some entry.1) (message_of entries outcome.message) (eq-eqb entry.0 outcome.message same)) ∙ found) in
        let here = subst (λ (m : Message). AreTold keys outcome.message (message_after outcome m).places) (sym it) new in
        subst (AllTold keys) (sym (ruled_at outcome entry entries same))
        (told_both keys (if_held entry.0 (message_after outcome entry.1)) entries
        (told_if_held keys entry.0 (message_after outcome entry.1) (subst (λ n. AreTold keys n (message_after outcome entry.1).places) (sym same) here)) told.1)
    by more (inr off) =
        subst (AllTold keys) (sym (ruled_past outcome entry entries off))
        (told.0, more (sym (cond-false (entry.0 == outcome.message) (Some entry.1) (message_of entries outcome.message) (ne_eqb entry.0 outcome.message off)) ∙ found) new)

told_from : (keys : List (ℕ × ℕ)) (at number : ℕ) (recipients : List Recipient) → Contains {X = ℕ × ℕ} keys (at, number) → AreTold keys number (map (λ recipient. held_place 0 false at) recipients)
told_from keys at number [] has = tt
told_from keys at number (recipient ∷ recipients) has = ((λ _. has), told_from keys at number recipients has)

pub accepted_told : (keys : List (ℕ × ℕ)) (number : ℕ) (message : Message) → message ≡ accepted message.number message.accept → Contains {X = ℕ × ℕ} keys (message.accept.at, number) → AreTold keys number message.places
accepted_told keys number message is has = subst (λ (m : Message). AreTold keys number m.places) (sym is) (told_from keys message.accept.at number message.accept.envelope.recipients has)

-- a key that no held place needs may go
abbrev pub OthersStay : ℕ → ℕ → List (ℕ × ℕ) → List (ℕ × ℕ) → Type 0
OthersStay due number keys fewer = (key : ℕ × ℕ) → (key.0 ≡ due → key.1 ≡ number → ⊥) → Contains keys key → Contains fewer key

are_told_fewer : (keys fewer : List (ℕ × ℕ)) (due number : ℕ) (places : List Place) → OthersStay due number keys fewer → list_any (is_held_until due) places ≡ false
    → AreTold keys number places → AreTold fewer number places
are_told_fewer keys fewer due number [] stay none told = tt
are_told_fewer keys fewer due number (place ∷ places) stay none told =
    let parts = or_parts (is_held_until due place) (list_any (is_held_until due) places) none in (
      (λ held. stay (place.due, number) (λ same _. false≢true (sym parts.0 ∙ and_from place.held (place.due == due) held (eq-eqb place.due due same))) (told.0 held)),
      are_told_fewer keys fewer due number places stay parts.1 told.1,
    )

others_told : (keys fewer : List (ℕ × ℕ)) (due number other : ℕ) (places : List Place) → OthersStay due number keys fewer → (other ≡ number → ⊥) → AreTold keys other places → AreTold fewer other places
others_told keys fewer due number other [] stay out told = tt
others_told keys fewer due number other (place ∷ places) stay out told =
    ((λ held. stay (place.due, other) (λ _ same. out same) (told.0 held)), others_told keys fewer due number other places stay out told.1)

all_others_told : (keys fewer : List (ℕ × ℕ)) (due number least next : ℕ) (entries : List (ℕ × Message)) → OthersStay due number keys fewer → Rise least next entries → number < least → AllTold keys entries → AllTold fewer entries
all_others_told keys fewer due number least next [] stay rise below told = tt
all_others_told keys fewer due number least next (entry ∷ entries) stay rise below told = (
  others_told keys fewer due number entry.0 entry.1.places stay (λ same. omega (arith, same, below, rise.0)) told.0,
  all_others_told keys fewer due number (suc entry.0) next entries stay rise.1 (omega (arith, below, rise.0)) told.1,
)

pub all_told_fewer : (keys fewer : List (ℕ × ℕ)) (due number least next : ℕ) (entries : List (ℕ × Message)) → OthersStay due number keys fewer → Rise least next entries
    → ((message : Message) → message_of entries number ≡ Some message → list_any (is_held_until due) message.places ≡ false)
    → AllTold keys entries → AllTold fewer entries
all_told_fewer keys fewer due number least next [] stay rise none told = tt
all_told_fewer keys fewer due number least next (entry ∷ entries) stay rise none told =
    by (all_told_fewer keys fewer due number (suc entry.0) next entries stay rise.1) (cases_eq entry.0 number)
  where
    by : (((message : Message) → message_of entries number ≡ Some message → list_any (is_held_until due) message.places ≡ false) → AllTold keys entries → AllTold fewer entries)
        → (entry.0 ≡ number) ⊎ (entry.0 ≡ number → ⊥) → AllTold fewer (entry ∷ entries)
    by more (inl same) =
        let clear = none entry.1 (cond-true (entry.0 == number) _ _ (eq-eqb entry.0 number same)) in
        let here = are_told_fewer keys fewer due number entry.1.places stay clear (subst (λ n. AreTold keys n entry.1.places) same told.0) in
        (subst (λ n. AreTold fewer n entry.1.places) (sym same) here, all_others_told keys fewer due number (suc entry.0) next entries stay rise.1 (omega (arith, same)) told.1)
    by more (inr off) = (
      others_told keys fewer due number entry.0 entry.1.places stay off told.0,
      more (λ message is. none message (cond-false (entry.0 == number) _ _ (ne_eqb entry.0 number off) ∙ is)) told.1,
    )

needed_or_not : (due number : ℕ) (entries : List (ℕ × Message)) (message : Message)
    → option_map_or (λ message. list_any (is_held_until due) message.places) (message_of entries number) false ≡ false
    → message_of entries number ≡ Some message → list_any (is_held_until due) message.places ≡ false
needed_or_not due number entries message none is =
    sym (ap (λ (o : Option Message). option_map_or (λ message. list_any (is_held_until due) message.places) o false) is) ∙ none

-- after a removal
pub all_told_removed : (test : ℕ × ℕ → Bool) (keys fewer : List (ℕ × ℕ)) (due number next : ℕ) (entries : List (ℕ × Message))
    → ((key : ℕ × ℕ) → test key ≡ true → (key.0 ≡ due) × (key.1 ≡ number))
    → fewer ≡ remove_key test keys → Rise 0 next entries
    → option_map_or (λ message. list_any (is_held_until due) message.places) (message_of entries number) false ≡ false
    → AllTold keys entries → AllTold fewer entries
all_told_removed test keys fewer due number next entries same is rise none told =
    all_told_fewer keys fewer due number 0 next entries stay rise (λ message found. needed_or_not due number entries message none found) told
  where
    stay : OthersStay due number keys fewer
    stay key out h =
        subst (λ (l : List (ℕ × ℕ)). Contains l key) (sym is)
        (remove_keeps test keys key (false_from_ne_true (test key) (λ e. out (same key e).0 (same key e).1)) h)

are_told_last : (keys : List (ℕ × ℕ)) (number : ℕ) (places : List Place) (place : Place) → AreTold keys number places → IsTold keys number place → AreTold keys number (places ++ place ∷ [])
are_told_last keys number [] place told new = (new, tt)
are_told_last keys number (first ∷ places) place told new = (told.0, are_told_last keys number places place told.1 new)

-- one place more is told of, by keys that are more
pub told_step : (keys more : List (ℕ × ℕ)) (number : ℕ) (places : List Place) (place : Place) → ((key : ℕ × ℕ) → Contains keys key → Contains more key)
    → AreTold keys number places → IsTold more number place → AreTold more number (places ++ place ∷ [])
told_step keys more number places place has told new = are_told_last more number places place (are_told_more keys more number places has told) new

pub told_step_at : (keys more : List (ℕ × ℕ)) (number : ℕ) (places : List Place) (i : ℕ) (none : Place) → i < length places → ((key : ℕ × ℕ) → Contains keys key → Contains more key)
    → AreTold keys number (take i places) → IsTold more number (get_or places i none) → AreTold more number (take (i + 1) places)
told_step_at keys more number places i none within has told new =
    subst (AreTold more number) (sym (ap (λ n. take n places) (add-one i) ∙ take-suc places i none within))
    (told_step keys more number (take i places) (get_or places i none) has told new)
