-- The laws of marks.
use Rattle.std.proofs.Common.{◌≡◌, ◌⊎◌, inl, inr, ℕ, zero, suc, ◌<◌, true, false, List, [], ◌∷◌, ◌++◌, length, fold, Option, None, Some, refl, sym, subst, ap, ◌∙◌, arith, Contains, append_assoc, append-nil, length-append}
use Rattle.std.specs.Option.{option_map_or}
use Rattle.std.proofs.lemmas.Bool.{cases_eq, cases_Bool, false≢true}
use Rattle.relay_book.specs.declared.change.Change.{Change}
use Rattle.relay_book.specs.declared.change.Change.TheVariants.{Outcome}
use Rattle.relay_book.specs.declared.message.Place.{Place}
use Rattle.relay_book.specs.declared.message.Message.{Message}
use Rattle.relay_book.specs.Queue.{Queue, FitsFrom, Fitting, empty_queue, step, queue_of, held_of, holds_at, message_of}
use Rattle.relay_book.specs.declared.fate.Way.{Way}
use Rattle.relay_book.specs.declared.fate.Way.TheVariants.{ByTransfer, ByEnd, ByWithdrawal}
use Rattle.relay_book.specs.Marks.{change_at, made_by, Added, LeavesAt, Left, Held, Transferred, Ended, Withdrawn, FoldHolds, FoldKnows, ExactlyOne, IsOneOf, First, Second, Third, Fourth, OneMoreHolds, Leaving, IsNew}
use Rattle.relay_book.specs.HeldLaw.{FoldFinds, holds_place}
use Rattle.relay_book.proofs.PlaceLemmas.{none_some}
use Rattle.relay_book.proofs.EntryLemmas.{holds, mark_held, held_mark}
use Rattle.relay_book.proofs.ChangeLemmas.{joined, last, Back, added_other, added_was, added_before, leaves_still, leaves_was, leaves_later, change_within}
use Rattle.relay_book.proofs.CustodyLemmas.{Knows, Tells, grows}

nothing_at : (n : ℕ) → change_at [] n ≡ None
nothing_at zero = refl
nothing_at (suc n) = refl

pub none_known : Knows [] empty_queue
none_known = record {
  next = refl;
  back = λ at outcome is. absurd (none_some (Outcome outcome) (sym (nothing_at at) ∙ is));
  rise = omega arith;
  accept = λ number message is. absurd (none_some message is);
  places = λ number message is. absurd (none_some message is);
  number = λ number message is. absurd (none_some message is);
}

pub none_told : Tells [] []
none_told = record {
  held = λ number place way held left. false≢true held;
  left = λ number place added out. absurd (none_some added.0 (sym (ap (made_by []) (nothing_at number)) ∙ added.1));
  one = λ number place way other first second. absurd (none_some (Outcome first.1.outcome) (sym (nothing_at first.0) ∙ first.1.change));
}

-- what holds of a list and its queue
pub record Stands (changes : List Change) (queue : Queue) : Type 0 where
  pub knows : Knows changes queue
  pub tells : Tells changes queue.messages

all_stand : (done : List Change) (queue : Queue) (rest : List Change) → Stands done queue → FitsFrom queue rest → Stands (done ++ rest) (fold step queue rest)
all_stand done queue [] stands fits = subst (λ (l : List Change). Stands l queue) (sym (append-nil done)) stands
all_stand done queue (change ∷ rest) stands fits =
    let more = grows done change queue stands.knows stands.tells fits.0 in
    subst (λ (l : List Change). Stands l (fold step (step queue change) rest)) (append_assoc done (change ∷ []) rest)
    (all_stand (joined done change) (step queue change) rest (record { knows = more.knows; tells = more.tells }) fits.1)

pub stand : (changes : List Change) → Fitting changes → Stands changes (queue_of changes)
stand changes fitting = all_stand [] empty_queue changes (record { knows = none_known; tells = none_told }) fitting

holds_within : (places : List Place) (n : ℕ) → holds_at places n ≡ true → n < length places
holds_within [] n held = absurd (false≢true held)
holds_within (place ∷ places) zero held = omega arith
holds_within (place ∷ places) (suc n) held = let within = holds_within places n held in omega (arith, within)

-- a held place was added
held_added : (changes : List Change) (queue : Queue) (number place : ℕ) → Knows changes queue → holds queue.messages number place ≡ true → Added changes number place
held_added changes queue number place knows held = by (message_of queue.messages number) refl held
  where
    by : (o : Option Message) → message_of queue.messages number ≡ o → option_map_or (λ message. holds_at message.places place) o false ≡ true → Added changes number place
    by None is held = absurd (false≢true held)
    by (Some message) is held =
        let within = holds_within message.places place held in
        let places = knows.places number message is in
        (message.accept, knows.accept number message is, omega (arith, within, places))

-- what is held has left in no way
held_stays : (changes : List Change) (number place : ℕ) → Held changes number place → (way : Way) → Left changes number place way → ⊥
held_stays changes number place held ByTransfer left = held.1 left
held_stays changes number place held ByEnd left = held.2 left
held_stays changes number place held (ByWithdrawal withdrawal) left = held.3 (withdrawal, left)

-- what was added and has left in no way is held
stays_held : (changes : List Change) (number place : ℕ) → Added changes number place → ((way : Way) → Left changes number place way → ⊥) → Held changes number place
stays_held changes number place added none = (added, none ByTransfer, none ByEnd, λ left. none (ByWithdrawal left.0) left.1)

pub fold_holds : FoldHolds
fold_holds changes fitting number place = (there, back)
  where
    stands : Stands changes (queue_of changes)
    stands = stand changes fitting

    there : Contains (held_of (queue_of changes)) (number, place) → Held changes number place
    there h =
        let held = (held_mark 0 (queue_of changes).next (queue_of changes).messages number place stands.knows.rise h).0 in
        stays_held changes number place (held_added changes (queue_of changes) number place stands.knows held)
        (λ way left. stands.tells.held number place way held left)

    back : Held changes number place → Contains (held_of (queue_of changes)) (number, place)
    back held = by (cases_Bool (holds (queue_of changes).messages number place))
      where
        by : (holds (queue_of changes).messages number place ≡ true) ⊎ (holds (queue_of changes).messages number place ≡ false) → Contains (held_of (queue_of changes)) (number, place)
        by (inl here) = mark_held (queue_of changes).messages number place here
        by (inr out) = let left = stands.tells.left number place held.0 out in absurd (held_stays changes number place held left.0 left.1)

pub fold_knows : FoldKnows
fold_knows changes fitting number message is =
    let stands = stand changes fitting in
    record { number_is = stands.knows.number number message is; accept_is = stands.knows.accept number message is; places = stands.knows.places number message is }

abbrev way_tag : Way → ℕ
way_tag ByTransfer = 0
way_tag ByEnd = 1
way_tag (ByWithdrawal withdrawal) = 2

-- a place is held, or left in one of the three ways
abbrev IsInOneWay : List Change → ℕ → ℕ → Type 0
IsInOneWay changes number place =
    IsOneOf (Held changes number place) (Transferred changes number place) (Ended changes number place) (Withdrawn changes number place)

pub exactly_one : ExactlyOne
exactly_one changes fitting number place added = by (cases_Bool (holds (queue_of changes).messages number place))
  where
    stands : Stands changes (queue_of changes)
    stands = stand changes fitting

    not_held : (way : Way) → Left changes number place way → Held changes number place → ⊥
    not_held way left held = held_stays changes number place held way left

    apart : (way other : Way) → Left changes number place way → (way_tag way ≡ way_tag other → ⊥) → Left changes number place other → ⊥
    apart way other left off also = off (ap way_tag (stands.tells.one number place way other left also))

    of_way : (way : Way) → Left changes number place way → IsInOneWay changes number place
    of_way ByTransfer left =
        Second (not_held ByTransfer left) left (apart ByTransfer ByEnd left (λ e. omega (arith, e)))
        (λ other. apart ByTransfer (ByWithdrawal other.0) left (λ e. omega (arith, e)) other.1)
    of_way ByEnd left =
        Third (not_held ByEnd left) (apart ByEnd ByTransfer left (λ e. omega (arith, e))) left
        (λ other. apart ByEnd (ByWithdrawal other.0) left (λ e. omega (arith, e)) other.1)
    of_way (ByWithdrawal withdrawal) left =
        Fourth (not_held (ByWithdrawal withdrawal) left) (apart (ByWithdrawal withdrawal) ByTransfer left (λ e. omega (arith, e)))
        (apart (ByWithdrawal withdrawal) ByEnd left (λ e. omega (arith, e))) (withdrawal, left)

    by : (holds (queue_of changes).messages number place ≡ true) ⊎ (holds (queue_of changes).messages number place ≡ false) → IsInOneWay changes number place
    by (inl held) =
        let stays = stays_held changes number place added (λ way left. stands.tells.held number place way held left) in
        First stays stays.1 stays.2 stays.3
    by (inr out) = let left = stands.tells.left number place added out in of_way left.0 left.1

pub fits_before : (queue : Queue) (changes : List Change) (change : Change) → FitsFrom queue (changes ++ change ∷ []) → FitsFrom queue changes
fits_before queue [] change fits = tt
fits_before queue (first ∷ changes) change fits = (fits.0, fits_before (step queue first) changes change fits.1)

pub one_more_holds : OneMoreHolds
one_more_holds changes change fitting number place = (there, back_again)
  where
    now : Stands (joined changes change) (queue_of (joined changes change))
    now = stand (joined changes change) fitting

    back : Back changes
    back = (stand changes (fits_before empty_queue changes change fitting)).knows.back

    still : (way : Way) → Left changes number place way → Left (joined changes change) number place way
    still way left = (left.0, leaves_still changes change left.0 number place way back left.1)

    there : Held (joined changes change) number place → (Held changes number place × (Leaving changes change number place → ⊥)) ⊎ IsNew changes change number place
    there held = by (cases_eq number (last changes))
      where
        by : (number ≡ last changes) ⊎ (number ≡ last changes → ⊥) → (Held changes number place × (Leaving changes change number place → ⊥)) ⊎ IsNew changes change number place
        by (inl same) = inr (same, held.0)
        by (inr off) = inl (
          stays_held changes number place (added_was changes change number place back off held.0)
              (λ way left. held_stays (joined changes change) number place held way (still way left)),
          (λ leaving. held_stays (joined changes change) number place held leaving.0 (last changes, leaving.1)),
        )

    not_left : Held changes number place → (Leaving changes change number place → ⊥) → (way : Way) → Left (joined changes change) number place way → ⊥
    not_left held stays way left = by (cases_eq left.0 (last changes))
      where
        by : (left.0 ≡ last changes) ⊎ (left.0 ≡ last changes → ⊥) → ⊥
        by (inl same) = stays (way, subst (λ at. LeavesAt (joined changes change) at number place way) same left.1)
        by (inr off) = held_stays changes number place held way (left.0, leaves_was changes change left.0 number place way back off left.1)

    new_stays : number ≡ last changes → (way : Way) → Left (joined changes change) number place way → ⊥
    new_stays same way left =
        let later = leaves_later (joined changes change) left.0 number place way now.knows.back left.1 in
        let within = change_within (joined changes change) left.0 (Outcome left.1.outcome) left.1.change in
        let parts = length-append changes (change ∷ []) in
        omega (arith, same, later, within, parts)

    back_again : (Held changes number place × (Leaving changes change number place → ⊥)) ⊎ IsNew changes change number place → Held (joined changes change) number place
    back_again (inl old) =
        stays_held (joined changes change) number place
        (added_other changes change number place back (added_before changes number place old.0.0) old.0.0) (not_left old.0 old.1)
    back_again (inr new) = stays_held (joined changes change) number place new.1 (new_stays new.0)

pub fold_finds : FoldFinds
fold_finds changes fitting number place = (there, back)
  where
    there : holds_place (queue_of changes) number place ≡ true → Held changes number place
    there held = (fold_holds changes fitting number place).0 (mark_held (queue_of changes).messages number place held)

    back : Held changes number place → holds_place (queue_of changes) number place ≡ true
    back held =
        let rise = (stand changes fitting).knows.rise in
        (held_mark 0 (queue_of changes).next (queue_of changes).messages number place rise ((fold_holds changes fitting number place).1 held)).0
