-- Lists of changes that go on with accepts, and what receipts say of them.
use Rattle.std.proofs.Common.{◌≡◌, ◌↔◌, inl, inr, ℕ, suc, ◌+◌, ◌-◌, ◌≤◌, List, [], ◌∷◌, ◌++◌, length, map, slice_get, MatchOption, Option, None, Some, refl, sym, ap, ◌∙◌, subst, arith, append_assoc, append-nil, length-append}
use Rattle.std.specs.Option.{option_map}
use Rattle.std.specs.List.{AllByRecursion}
use Rattle.std.proofs.lemmas.List.{length-map}
use Rattle.std.proofs.lemmas.Option.{slice_get-map}
use Rattle.relay_disk.specs.Device.{DiskWords}
use Rattle.relay_book.specs.declared.change.Accept.{Accept}
use Rattle.relay_book.specs.declared.change.Change.{Change}
use Rattle.relay_book.specs.declared.change.Change.TheVariants as change
use Rattle.relay_book.specs.declared.message.Message.{Message}
use Rattle.relay_book.specs.Marks.{Held, made_by, message_at}
use Rattle.relay_book.specs.Queue.{FitsFrom, Fitting, Queue, message_of, queue_of, step}
use Rattle.relay_book.proofs.Theorems.{fold_knows, leaving_is_listed, one_more_holds}
use Rattle.relay_records.proofs.Theorems.{next_is_one_more}
use Rattle.relay_records.specs.Records.{Kept}
use Rattle.relay_hub.specs.declared.receipt.Receipt.{Receipt}
use Rattle.relay_hub.specs.Hub.{GrowsBy, HasTaken, IsTold, with_accepts}
use Rattle.relay_hub.specs.Receipts.{AreReceipts, AreTrueOf, IsTrueOf, Rise, count_of}

-- what stands after a front
after : {X : Type 0} (front rest : List X) (place : ℕ) → slice_get (front ++ rest) (length front + place) ≡ slice_get rest place
after [] rest place = let is : 0 + place ≡ place = omega arith in ap (slice_get rest) is
after (first ∷ front) rest place =
    let is : suc (length front) + place ≡ suc (length front + place) = omega arith in
    ap (slice_get (first ∷ (front ++ rest))) is ∙ after front rest place

own : (all : List Change) (found : Option Accept) → made_by all (option_map change.Accept found) ≡ found
own all None = refl
own all (Some accept) = refl

-- the message after these changes is that of its accept
pub message_after : (changes : List Change) (accepts : List Accept) (place : ℕ) → message_at (with_accepts changes accepts) (length changes + 1 + place) ≡ slice_get accepts place
message_after changes accepts place =
    let all = with_accepts changes accepts in
    let is : length changes + 1 + place ≡ suc (length changes + place) = omega arith in
    ap (message_at all) is
    ∙ ap (made_by all) (after changes (map change.Accept accepts) place ∙ slice_get-map change.Accept accepts place)
    ∙ own all (slice_get accepts place)

-- a front of a list that fits
front_fits : (queue : Queue) (front rest : List Change) → FitsFrom queue (front ++ rest) → FitsFrom queue front
front_fits queue [] rest fits = tt
front_fits queue (first ∷ front) rest fits = (fits.0, front_fits (step queue first) front rest fits.1)

none_some : (number : ℕ) → None ≡ Some number → ⊥
none_some number e = cc

-- an accept leaves what is held below it
one_holds : (changes : List Change) (accept : Accept) (number place : ℕ) → Fitting (changes ++ change.Accept accept ∷ []) → number ≤ length changes → Held (changes ++ change.Accept accept ∷ []) number place ↔ Held changes number place
one_holds changes accept number place fitting below =
    let more = one_more_holds changes (change.Accept accept) fitting number place in (
      λ held. elim (more.0 held) [
        | inl was ↦ was.0
        | inr new ↦ absurd (omega (arith, below, new.0))
      ],
      λ held. more.1 (inl (held, λ leaving. none_some number ((leaving_is_listed changes (change.Accept accept) fitting number place leaving.0).0 leaving.1).0)),
    )

held_below : (changes : List Change) (accepts : List Accept) (number place : ℕ) → Fitting (with_accepts changes accepts) → number ≤ length changes → Held (with_accepts changes accepts) number place ↔ Held changes number place
held_below changes [] number place fitting below = subst (λ (all : List Change). Held all number place ↔ Held changes number place) (sym (append-nil changes)) (λ held. held, λ held. held)
held_below changes (accept ∷ accepts) number place fitting below =
    let one = changes ++ change.Accept accept ∷ [] in
    let same : one ++ map change.Accept accepts ≡ with_accepts changes (accept ∷ accepts) = append_assoc changes (change.Accept accept ∷ []) (map change.Accept accepts) in
    let fits = subst (λ (all : List Change). Fitting all) (sym same) fitting in
    let long = length-append changes (change.Accept accept ∷ []) in
    let later = held_below one accepts number place fits (omega (arith, below, long)) in
    let first = one_holds changes accept number place (front_fits _ one (map change.Accept accepts) fits) below in
    subst (λ (all : List Change). Held all number place ↔ Held changes number place) same
    (λ held. first.0 (later.0 held), λ held. later.1 (first.1 held))

-- the message that a receipt tells
found : (accept : Accept) (message : Option Message) → MatchOption message ⊥ (λ (m : Message). m.accept ≡ accept) → (m : Message) × (message ≡ Some m) × (m.accept ≡ accept)
found accept None is = absurd is
found accept (Some m) is = (m, refl, is)

module _ (changes : List Change) (accepts : List Accept) (queue : Queue) (fitting : Fitting (with_accepts changes accepts)) (queue_is : queue ≡ queue_of (with_accepts changes accepts)) where
  one_told : (receipt : Receipt) → length changes + 1 ≤ receipt.number → IsTrueOf queue receipt → IsTold (length changes) accepts receipt
  one_told receipt low is =
      let all = with_accepts changes accepts in
      let place = receipt.number - (length changes + 1) in
      let number_is : receipt.number ≡ length changes + 1 + place = omega (arith, low) in
      let m = found receipt.accept (message_of queue.messages receipt.number) is in
      let there = subst (λ (q : Queue). message_of q.messages receipt.number ≡ Some m.0) queue_is m.1 in
      let knows = fold_knows all fitting receipt.number m.0 there in
      record {
        place = place;
        number_is = number_is;
        accept_is = sym (message_after changes accepts place) ∙ ap (message_at all) (sym number_is) ∙ knows.accept_is ∙ ap (λ (a : Accept). Some a) m.2;
      }

  told_in : (least bound : ℕ) (receipts : List Receipt) → length changes + 1 ≤ least → Rise least bound receipts → AreTrueOf queue receipts → AllByRecursion (λ receipt. IsTold (length changes) accepts receipt) receipts
  told_in least bound [] low rise all = tt
  told_in least bound (receipt ∷ receipts) low rise all =
      let from = rise.0 in (
        one_told receipt (omega (arith, low, from)) all.0,
        told_in (receipt.number + 1) bound receipts (omega (arith, low, from)) rise.2 all.1,
      )

  told_by : (bound : ℕ) (passes : List (List Receipt)) → AllByRecursion (λ receipts. Rise (length changes + 1) bound receipts) passes → AllByRecursion (λ receipts. AreTrueOf queue receipts) passes
      → AllByRecursion (λ receipts. AllByRecursion (λ receipt. IsTold (length changes) accepts receipt) receipts) passes
  told_by bound [] rise all = tt
  told_by bound (receipts ∷ passes) rise all = (told_in (length changes + 1) bound receipts (omega arith) rise.0 all.0, told_by bound passes rise.1 all.1)

-- receipts that are those of a node's queue say all that its list has gained
pub has_taken : {D : Type 0} (honest : Type 0) (words : DiskWords D) (changes : List Change) (passes : List (List Receipt)) (records : Kept D)
    → GrowsBy honest words changes (count_of passes) records → AreReceipts (length changes + 1) records.queue passes → HasTaken honest words changes passes records
has_taken honest words changes passes records grows are =
    let accepts = grows.accepts in
    let all = with_accepts changes accepts in
    let long = length-append changes (map change.Accept accepts) in
    let many = length-map accepts change.Accept in
    let next : records.queue.next ≡ length changes + 1 + length accepts = omega (arith, ap (λ (q : Queue). q.next) grows.list.queue ∙ next_is_one_more all, long, many) in
    record {
      accepts = accepts;
      list = grows.list;
      count = grows.count;
      told = told_by changes accepts records.queue grows.list.fitting grows.list.queue records.queue.next passes are.rise are.true_of;
      once = λ place within. are.once (length changes + 1 + place) (omega arith) (omega (arith, within, next));
      rise = subst (λ (bound : ℕ). AllByRecursion (λ receipts. Rise (length changes + 1) bound receipts) passes) next are.rise;
      marks = λ number place below. held_below changes accepts number place grows.list.fitting below;
    }

-- the same receipts, from the same number on
pub from_number : (first number : ℕ) (queue : Queue) (passes others : List (List Receipt)) → first ≡ number → passes ≡ others → AreReceipts first queue passes → AreReceipts number queue others
from_number first number queue passes others e same are =
    subst (λ (n : ℕ). AreReceipts n queue others) e (subst (λ (l : List (List Receipt)). AreReceipts first queue l) same are)
