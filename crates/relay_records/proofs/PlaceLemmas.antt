-- What the queue tells of a place is what the list of changes does.
use Rattle.std.proofs.Common.{◌≡◌, ℕ, Bool, true, false, List, [], ◌∷◌, zero, suc, length, slice_get, Option, None, Some, MatchOption, if◌then◌else◌, refl, sym, ap, ◌∙◌, subst, arith}
use Rattle.std.specs.Option.{option_and_then, option_map, option_map_or}
use Rattle.std.proofs.lemmas.Bool.{false≢true}
use Rattle.relay_envelope.specs.declared.envelope.Recipient.{Recipient}
use Rattle.relay_book.specs.declared.change.Change.{Change}
use Rattle.relay_book.specs.declared.message.Message.{Message}
use Rattle.relay_book.specs.declared.message.Place.{Place}
use Rattle.relay_book.specs.HeldLaw.{holds_place}
use Rattle.relay_book.specs.Marks.{Held}
use Rattle.relay_book.specs.Queue.{Fitting, holds_at, is_held, message_of, queue_of}
use Rattle.relay_book.proofs.Theorems.{fold_due, fold_finds, fold_knows}
use Rattle.relay_records.specs.HeldPlace.{IsWaiting, waiting_at, waiting_for, waiting_in}

none_is_some : {A : Type 0} (x : A) → None ≡ Some x → ⊥
none_is_some x e = let b = ap is_there e in false≢true b
  where
    is_there : {A : Type 0} → Option A → Bool
    is_there None = false
    is_there (Some y) = true

path_in : Option (List ℕ × ℕ) → List ℕ
path_in None = []
path_in (Some found) = found.0

due_in : Option (List ℕ × ℕ) → ℕ
due_in None = 0
due_in (Some found) = found.1

-- a place that waits is held, and has a recipient
record Waits (place : Place) (recipient : Option Recipient) (path : List ℕ) (due : ℕ) : Type 0 where
  held : place.held ≡ true
  found : Recipient
  recipient_is : recipient ≡ Some found
  path_is : path ≡ found.path
  due_is : due ≡ place.due

waits_if : (place : Place) (recipient : Option Recipient) (path : List ℕ) (due : ℕ) (test : Bool) → place.held ≡ test
    → (if test then option_map {U = List ℕ × ℕ} (λ (r : Recipient). (r.path, place.due)) recipient else None) ≡ Some (path, due) → Waits place recipient path due
unfolding path_in due_in
waits_if place (Some recipient) path due true held is =
    record { held = held; found = recipient; recipient_is = refl; path_is = sym (ap path_in is); due_is = sym (ap due_in is) }
waits_if place None path due true held is = absurd (none_is_some (path, due) is)
waits_if place recipient path due false held is = absurd (none_is_some (path, due) is)

-- of two lists of one length both have a place, or none has
both_there : {A B : Type 0} (place : ℕ) (xs : List A) (ys : List B) (x : A) → slice_get xs place ≡ Some x → length xs ≡ length ys → slice_get ys place ≡ None → ⊥
both_there place [] ys x is long none = none_is_some x is
both_there place (y ∷ xs) [] x is long none = let longer : suc (length xs) ≡ 0 = long in omega (arith, longer)
both_there zero (y ∷ xs) (z ∷ ys) x is long none = none_is_some z (sym none)
both_there (suc place) (y ∷ xs) (z ∷ ys) x is long none =
    let longer : suc (length xs) ≡ suc (length ys) = long in
    both_there place xs ys x is (omega (arith, longer)) none

-- a held place with a recipient waits
waits_at : (place : Place) (recipient : Recipient) (test : Bool) → test ≡ true
    → (if test then option_map {U = List ℕ × ℕ} (λ (r : Recipient). (r.path, place.due)) (Some recipient) else None) ≡ None → ⊥
waits_at place recipient true held is = none_is_some (recipient.path, place.due) (sym is)
waits_at place recipient false held is = false≢true held

module _ (changes : List Change) (fitting : Fitting changes) (number place : ℕ) where
  -- what the queue tells of a place that waits
  waiting_is : (path : List ℕ) (due : ℕ) (message : Option Message) → message_of (queue_of changes).messages number ≡ message
      → option_and_then (waiting_in place) message ≡ Some (path, due) → IsWaiting changes number place path due
  waiting_is path due None is waits = absurd (none_is_some (path, due) waits)
  waiting_is path due (Some message) is waits = at (slice_get message.places place) refl waits
    where
      at : (found : Option Place) → slice_get message.places place ≡ found
          → option_and_then (waiting_for (slice_get message.accept.envelope.recipients place)) found ≡ Some (path, due) → IsWaiting changes number place path due
      at None at_is at_waits = absurd (none_is_some (path, due) at_waits)
      at (Some found) at_is at_waits =
          let known = fold_knows changes fitting number message is in
          let told = waits_if found (slice_get message.accept.envelope.recipients place) path due found.held refl at_waits in
          let holds : holds_place (queue_of changes) number place ≡ true =
          ap (λ (m : Option Message). option_map_or (λ message. holds_at message.places place) m false) is
          ∙ ap (λ (p : Option Place). option_map_or is_held p false) at_is ∙ told.held in
          record {
            held = (fold_finds changes fitting number place).0 holds;
            accept = message.accept;
            message = known.accept_is;
            recipient = told.found;
            at = told.recipient_is;
            path_is = told.path_is;
            due_is = told.due_is ∙ fold_due changes fitting number place message found is at_is told.held;
          }

  -- a place that doesn't wait isn't held
  isnt_held : (message : Option Message) → message_of (queue_of changes).messages number ≡ message → option_and_then (waiting_in place) message ≡ None
      → option_map_or (λ (m : Message). holds_at m.places place) message false ≡ true → ⊥
  isnt_held None is waits holds = false≢true holds
  isnt_held (Some message) is waits holds = at (slice_get message.places place) refl waits holds
    where
      at : (found : Option Place) → slice_get message.places place ≡ found
          → option_and_then (waiting_for (slice_get message.accept.envelope.recipients place)) found ≡ None → option_map_or is_held found false ≡ true → ⊥
      at None at_is at_waits at_holds = false≢true at_holds
      at (Some found) at_is at_waits at_holds = of (slice_get message.accept.envelope.recipients place) refl
        where
          of : (recipient : Option Recipient) → slice_get message.accept.envelope.recipients place ≡ recipient → ⊥
          of None of_is = both_there place message.places message.accept.envelope.recipients found at_is (fold_knows changes fitting number message is).places of_is
          of (Some recipient) of_is =
              waits_at found recipient found.held at_holds (subst (λ (r : Option Recipient). waiting_for r found ≡ None) of_is at_waits)

  not_held : waiting_at (queue_of changes) number place ≡ None → Held changes number place → ⊥
  not_held waits held = isnt_held (message_of (queue_of changes).messages number) refl waits ((fold_finds changes fitting number place).1 held)

  is_waiting : (path : List ℕ) (due : ℕ) → waiting_at (queue_of changes) number place ≡ Some (path, due) → IsWaiting changes number place path due
  is_waiting path due waits = waiting_is path due (message_of (queue_of changes).messages number) refl waits

  -- what is answered of a place is what the list tells
  pub place_by_list : {F : Type 0} (path : F → List ℕ) (due : F → ℕ) (waiting : Option (List ℕ × ℕ)) (found : Option F)
      → waiting_at (queue_of changes) number place ≡ waiting → MatchOption found (waiting ≡ None) (λ f. waiting ≡ Some (path f, due f))
      → MatchOption found (Held changes number place → ⊥) (λ f. IsWaiting changes number place (path f) (due f))
  place_by_list path due waiting None is answered = not_held (is ∙ answered)
  place_by_list path due waiting (Some f) is answered = is_waiting (path f) (due f) (is ∙ answered)
