-- Elements of lists by their place, and the rulings of an outcome.
use Rattle.std.proofs.Common.{◌≡◌, ◌⊎◌, inl, inr, ◌≤◌, ◌<◌, ◌+◌, ℕ, zero, suc, List, [], ◌∷◌, ◌++◌, length, map, Option, Some, None, refl, sym, subst, ap, ◌∙◌, arith}
use Rattle.std.specs.Prelude.{MatchOption, option_to_list, slice_get}
use Rattle.std.specs.List.{AllByRecursion, Contains}
use Rattle.std.specs.Option.{is_some}
use Rattle.std.proofs.lemmas.Bool.{false≢true}
use Rattle.std.proofs.lemmas.List.{length-append}
use Rattle.std.proofs.lemmas.Option.{none-some, same_Some, slice_get-get_or, slice_get_within}
use Rattle.relay_envelope.specs.declared.envelope.Recipient.{Recipient}
use Rattle.relay_book.specs.declared.change.Change.{Change}
use Rattle.relay_book.specs.declared.change.Change.TheVariants as change
use Rattle.relay_book.specs.declared.change.Outcome.{Outcome}
use Rattle.relay_book.specs.declared.change.Ruling.{Ruling}
use Rattle.relay_book.specs.declared.change.Verdict.{Verdict}
use Rattle.relay_book.specs.declared.message.Message.{Message}
use Rattle.relay_book.specs.declared.message.Place.{Place}
use Rattle.relay_book.specs.Marks.{change_at}
use Rattle.relay_book.specs.Queue.{AreRulings, FitsFrom, FitsMessage, FitsQueue, Fitting, Queue, empty_queue, message_of, step}
use Rattle.relay_attempts.specs.Outcomes.{rulings_of}
use Rattle.relay_meeting.specs.Joined.{recipients_at}

pub found_in : {A : Type 0} (xs : List A) (x : A) → Contains xs x → (k : ℕ) × (slice_get xs k ≡ Some x)
found_in xs x has = (has.0, slice_get-get_or xs has.0 x has.1 ∙ ap (λ y. Some y) has.2)

pub in_found : {A : Type 0} (xs : List A) (x : A) (k : ℕ) → slice_get xs k ≡ Some x → Contains xs x
in_found xs x k is =
    let within = slice_get_within xs k x is in
    (k, within, same_Some _ x (sym (slice_get-get_or xs k x within) ∙ is))

pub in_cons : {A : Type 0} (x y : A) (xs : List A) → Contains (x ∷ xs) y → (x ≡ y) ⊎ Contains xs y
in_cons x y xs (zero, within, is) = inl is
in_cons x y xs (suc k, within, is) = inr (k, omega (arith, within), is)

pub in_none : {A : Type 0} (y : A) → Contains {X = A} [] y → ⊥
in_none y has = omega (arith, has.1)

pub in_first : {A : Type 0} (x : A) (xs : List A) → Contains (x ∷ xs) x
in_first x xs = in_found (x ∷ xs) x 0 refl

pub in_rest : {A : Type 0} (x y : A) (xs : List A) → Contains xs y → Contains (x ∷ xs) y
in_rest x y xs has = let found = found_in xs y has in in_found (x ∷ xs) y (suc found.0) found.1

-- what holds of each element holds of one, and the other way round
pub all_of : {A : Type 0} (P : A → Type 0) (xs : List A) (k : ℕ) (x : A) → AllByRecursion P xs → slice_get xs k ≡ Some x → P x
all_of P [] k x all is = absurd (none-some x is)
all_of P (y ∷ xs) zero x all is = subst P (same_Some y x is) all.0
all_of P (y ∷ xs) (suc k) x all is = all_of P xs k x all.1 is

pub all_by : {A : Type 0} (P : A → Type 0) (xs : List A) → ((x : A) → Contains xs x → P x) → AllByRecursion P xs
all_by P [] each = tt
all_by P (x ∷ xs) each = (each x (in_first x xs), all_by P xs (λ y has. each y (in_rest x y xs has)))

-- an element of a mapped list is of one of the list
pub of_map : {A B : Type 0} (f : A → B) (xs : List A) (k : ℕ) (y : B) → slice_get (map f xs) k ≡ Some y
    → (x : A) × (slice_get xs k ≡ Some x) × (f x ≡ y)
of_map f [] k y is = absurd (none-some y is)
of_map f (x ∷ xs) zero y is = (x, refl, same_Some (f x) y is)
of_map f (x ∷ xs) (suc k) y is = of_map f xs k y is

pub in_map : {A B : Type 0} (f : A → B) (xs : List A) (k : ℕ) (x : A) → slice_get xs k ≡ Some x
    → slice_get (map f xs) k ≡ Some (f x)
in_map f [] k x is = absurd (none-some x is)
in_map f (y ∷ xs) zero x is = ap (λ z. Some (f z)) (same_Some y x is)
in_map f (y ∷ xs) (suc k) x is = in_map f xs k x is

pub in_front : {A : Type 0} (xs ys : List A) (k : ℕ) (x : A) → slice_get xs k ≡ Some x → slice_get (xs ++ ys) k ≡ Some x
in_front [] ys k x is = absurd (none-some x is)
in_front (y ∷ xs) ys zero x is = is
in_front (y ∷ xs) ys (suc k) x is = in_front xs ys k x is

-- the ruling of a place and its verdict
abbrev ruling_of : ℕ → Verdict → Ruling
ruling_of place verdict = record { place = place; verdict = verdict }

pub ruled_at : (places : List ℕ) (verdicts : List Verdict) (k place : ℕ) (verdict : Verdict) → slice_get places k ≡ Some place
    → slice_get verdicts k ≡ Some verdict
    → slice_get (rulings_of places verdicts) k ≡ Some (record { place = place; verdict = verdict })
ruled_at [] verdicts k place verdict first second = absurd (none-some place first)
ruled_at (p ∷ places) [] k place verdict first second = absurd (none-some verdict second)
ruled_at (p ∷ places) (v ∷ verdicts) zero place verdict first second =
    ap (λ q. Some (ruling_of q v)) (same_Some p place first) ∙ ap (λ w. Some (ruling_of place w)) (same_Some v verdict second)
ruled_at (p ∷ places) (v ∷ verdicts) (suc k) place verdict first second = ruled_at places verdicts k place verdict first second

pub ruled_by : (places : List ℕ) (verdicts : List Verdict) (k : ℕ) (ruling : Ruling)
    → slice_get (rulings_of places verdicts) k ≡ Some ruling
    → (slice_get places k ≡ Some ruling.place) × (slice_get verdicts k ≡ Some ruling.verdict)
ruled_by [] verdicts k ruling is = absurd (none-some ruling is)
ruled_by (p ∷ places) [] k ruling is = absurd (none-some ruling is)
ruled_by (p ∷ places) (v ∷ verdicts) zero ruling is =
    let same : ruling_of p v ≡ ruling = same_Some (ruling_of p v) ruling is in
    (ap (λ (r : Ruling). Some r.place) same, ap (λ (r : Ruling). Some r.verdict) same)
ruled_by (p ∷ places) (v ∷ verdicts) (suc k) ruling is = ruled_by places verdicts k ruling is

-- rulings rise, so a place has one
least_ruled : (places : List Place) (least : ℕ) (rulings : List Ruling) (k : ℕ) (ruling : Ruling)
    → AreRulings places least rulings → slice_get rulings k ≡ Some ruling → least ≤ ruling.place
least_ruled places least [] k ruling rise is = absurd (none-some ruling is)
least_ruled places least (r ∷ rulings) zero ruling rise is =
    let first = rise.0 in let same = ap (λ (r : Ruling). r.place) (same_Some r ruling is) in omega (arith, first, same)
least_ruled places least (r ∷ rulings) (suc k) ruling rise is =
    let first = rise.0 in
    let after = least_ruled places (r.place + 1) rulings k ruling rise.2 is in
    omega (arith, first, after)

pub one_ruling : (places : List Place) (least : ℕ) (rulings : List Ruling) (k n : ℕ) (one other : Ruling)
    → AreRulings places least rulings → slice_get rulings k ≡ Some one → slice_get rulings n ≡ Some other
    → one.place ≡ other.place → one ≡ other
one_ruling places least [] k n one other rise first second same = absurd (none-some one first)
one_ruling places least (r ∷ rulings) zero zero one other rise first second same =
    sym (same_Some r one first) ∙ same_Some r other second
one_ruling places least (r ∷ rulings) zero (suc n) one other rise first second same =
    let here = ap (λ (r : Ruling). r.place) (same_Some r one first) in
    let after = least_ruled places (r.place + 1) rulings n other rise.2 second in
    absurd (omega (arith, here, after, same))
one_ruling places least (r ∷ rulings) (suc k) zero one other rise first second same =
    let here = ap (λ (r : Ruling). r.place) (same_Some r other second) in
    let after = least_ruled places (r.place + 1) rulings k one rise.2 first in
    absurd (omega (arith, here, after, same))
one_ruling places least (r ∷ rulings) (suc k) (suc n) one other rise first second same =
    one_ruling places (r.place + 1) rulings k n one other rise.2 first second same

-- each change of a fitting list fits what the ones before it left
fits_there : (queue : Queue) (changes : List Change) (n : ℕ) (change : Change) → FitsFrom queue changes
    → slice_get changes n ≡ Some change → (before : Queue) × FitsQueue before change
fits_there queue [] n change fits is = absurd (none-some change is)
fits_there queue (first ∷ changes) zero change fits is =
    (queue, subst (λ c. FitsQueue queue c) (same_Some first change is) fits.0)
fits_there queue (first ∷ changes) (suc n) change fits is = fits_there (step queue first) changes n change fits.1 is

rulings_rise : (outcome : Outcome) (message : Option Message) → MatchOption message ⊥ (λ m. FitsMessage m outcome)
    → (places : List Place) × AreRulings places 0 outcome.rulings
rulings_rise outcome None fits = absurd fits
rulings_rise outcome (Some message) fits = (message.places, fits.rulings)

pub outcome_rises : (changes : List Change) (number : ℕ) (outcome : Outcome) → Fitting changes
    → change_at changes number ≡ Some (change.Outcome outcome) → (places : List Place) × AreRulings places 0 outcome.rulings
outcome_rises changes zero outcome fits is = absurd (false≢true (ap is_some is))
outcome_rises changes (suc n) outcome fits is =
    let there = fits_there empty_queue changes n (change.Outcome outcome) fits is in
    rulings_rise outcome (message_of there.0.messages outcome.message) there.1.1

-- each of some places within has its recipient
one_there : (recipients : List Recipient) (place : ℕ) → place < length recipients
    → length (option_to_list (slice_get recipients place)) ≡ 1
one_there [] place within = absurd (omega (arith, within))
one_there (recipient ∷ recipients) zero within = refl
one_there (recipient ∷ recipients) (suc place) within = one_there recipients place (omega (arith, within))

pub recipients_there : (recipients : List Recipient) (places : List ℕ)
    → AllByRecursion (λ place. place < length recipients) places → length (recipients_at recipients places) ≡ length places
recipients_there recipients [] within = refl
recipients_there recipients (place ∷ places) within =
    let one = one_there recipients place within.0 in
    let more = recipients_there recipients places within.1 in
    let parts = length-append (option_to_list (slice_get recipients place)) (recipients_at recipients places) in
    omega (arith, one, more, parts)
