-- A place is reported as delayed once.
use Rattle.std.proofs.Common.{◌≡◌, ◌≢◌, ◌⊎◌, inl, inr, ◌<◌, ◌==◌, ℕ, zero, suc, nat_le, Bool, true, false, not, ◌&&◌, ◌||◌, List, [], ◌∷◌, ◌++◌, fold, length, Option, None, Some, refl, sym, subst, ap, ◌∙◌, ◌+◌, arith}
use Rattle.std.specs.List.{list_any}
use Rattle.std.specs.Option.{option_map_or}
use Rattle.std.proofs.lemmas.Bool.{and_from, and_parts, cases_eq, eq-eqb, false≢true}
use Rattle.std.proofs.lemmas.Option.{same_Some}
use Rattle.relay_book.specs.declared.change.Accept.{Accept}
use Rattle.relay_book.specs.declared.change.Change.{Change}
use Rattle.relay_book.specs.declared.change.Change.TheVariants as change
use Rattle.relay_book.specs.declared.change.Outcome.{Outcome}
use Rattle.relay_book.specs.declared.message.Message.{Message}
use Rattle.relay_book.specs.DelayLaw.{delays_with, is_delay, tells_of}
use Rattle.relay_book.specs.DueMoment.{waits_in}
use Rattle.relay_book.specs.DueReport.{patience}
use Rattle.relay_book.specs.Marks.{message_at, place_steps, place_steps_by}
use Rattle.relay_book.specs.Queue.{FitsFrom, FitsQueue, Fitting, Queue, empty_queue, message_of, queue_of, step}
use Rattle.relay_book.proofs.Theorems.{delay_is_told, fold_knows}
use Rattle.relay_world.specs.Delays.{FittingDelaysOnce, TellsDelay}
use Rattle.relay_world.proofs.GrowLemmas.{changes_kept, messages_kept}

-- of numbers that are apart one is less
apart : (a b : ℕ) → a ≢ b → (a < b) ⊎ (b < a)
apart zero zero off = absurd (off refl)
apart zero (suc b) off = inl (omega arith)
apart (suc a) zero off = inr (omega arith)
apart (suc a) (suc b) off = elim (apart a b (λ same. off (ap suc same))) [
  | inl less ↦ inl (omega (arith, less))
  | inr more ↦ inr (omega (arith, more))
]

-- a part of a list that comes before another part comes in what stands before that
before_that : {A : Type 0} (xs ys after rest : List A) (x y : A) → xs ++ x ∷ after ≡ ys ++ y ∷ rest
    → length xs < length ys → (more : List A) × (ys ≡ xs ++ x ∷ more)
before_that [] [] after rest x y same less = absurd (omega (arith, less))
before_that [] (z ∷ ys) after rest x y same less =
    let first : x ≡ z = cc in (ys, ap (λ w. w ∷ ys) (sym first))
before_that (z ∷ xs) [] after rest x y same less = absurd (omega (arith, less))
before_that (z ∷ xs) (w ∷ ys) after rest x y same less =
    let first : z ≡ w = cc in
    let others : xs ++ x ∷ after ≡ ys ++ y ∷ rest = cc in
    let shorter : length xs < length ys = omega (arith, less) in
    let found = before_that xs ys after rest x y others shorter in
    (found.0, ap (λ v. v ∷ ys) (sym first) ∙ ap (λ l. z ∷ l) found.1)

or_true : (b : Bool) → (b || true) ≡ true
or_true true = refl
or_true false = refl

-- a test that one element passes
any_passes : {A : Type 0} (test : A → Bool) (xs more : List A) (x : A) → test x ≡ true → list_any test (xs ++ x ∷ more) ≡ true
any_passes test [] more x is = ap (λ b. b || list_any test more) is
any_passes test (y ∷ xs) more x is = ap (λ b. test y || b) (any_passes test xs more x is) ∙ or_true (test y)

-- changes that fit do so up to each of them
fits_up_to : (queue : Queue) (front : List Change) (one : Change) (after : List Change) → FitsFrom queue (front ++ one ∷ after)
    → FitsFrom queue front × FitsQueue (fold step queue front) one
fits_up_to queue [] one after fits = (tt, fits.0)
fits_up_to queue (first ∷ front) one after fits =
    let rest = fits_up_to (step queue first) front one after fits.1 in ((fits.0, rest.0), rest.1)

-- an outcome that reports a delay is of a message of the queue
told_message : (queue : Queue) (outcome : Outcome) (place : ℕ) → tells_of place (place_steps queue (change.Outcome outcome)) ≡ true
    → (message : Message) × (message_of queue.messages outcome.message ≡ Some message)
told_message queue outcome place tells = by (message_of queue.messages outcome.message) refl tells
  where
    by : (found : Option Message) → message_of queue.messages outcome.message ≡ found
        → tells_of place
        (option_map_or (λ message. place_steps_by outcome.version message outcome.at outcome.rulings) found []) ≡ true
        → (message : Message) × (message_of queue.messages outcome.message ≡ Some message)
    by None is told = absurd (false≢true told)
    by (Some message) is told = (message, is)

-- what is known of an outcome that reports a delay of a place: it puts the place off when it is late, and no change
-- before has
record KnowsDelay (front : List Change) (outcome : Outcome) (place : ℕ) : Type 0 where
  pub fitting : Fitting front
  pub message : Message
  pub found : message_at front outcome.message ≡ Some message.accept
  pub delays : delays_with message.accept outcome.message place (change.Outcome outcome) ≡ true
  pub first : not (list_any (delays_with message.accept outcome.message place) front) ≡ true

known_delay : (changes front after : List Change) (outcome : Outcome) (place : ℕ) → Fitting changes
    → changes ≡ front ++ change.Outcome outcome ∷ after
    → tells_of place (place_steps (queue_of front) (change.Outcome outcome)) ≡ true → KnowsDelay front outcome place
known_delay changes front after outcome place fitting list tells =
    let fits = fits_up_to empty_queue front (change.Outcome outcome) after (subst (λ l. FitsFrom empty_queue l) list fitting) in
    let its = told_message (queue_of front) outcome place tells in
    let message : Message = its.0 in
    let waits : Bool = waits_in place outcome.rulings in
    let past : Bool = not (nat_le (message.accept.at + patience) outcome.at) in
    let late : Bool = is_delay outcome.version message.accept outcome.at place in
    let fresh : Bool = not (list_any (delays_with message.accept outcome.message place) front) in
    let told : (waits && (past && (late && fresh))) ≡ true =
    sym (delay_is_told front fits.0 outcome message fits.1 its.1 place) ∙ tells in
    let one = and_parts waits (past && (late && fresh)) told in
    let two = and_parts past (late && fresh) one.1 in
    let three = and_parts late fresh two.1 in
    record {
      fitting = fits.0;
      message = message;
      found = (fold_knows front fits.0 outcome.message message its.1).accept_is;
      delays = and_from (outcome.message == outcome.message) (waits && late)
          (eq-eqb outcome.message outcome.message refl) (and_from waits late one.0 three.0);
      first = three.1;
    }

-- no change reports a delay of a place after another that has
none_again : (changes : List Change) → Fitting changes → (one other number place : ℕ)
    → (first : TellsDelay changes one number place) (second : TellsDelay changes other number place)
    → length first.front < length second.front → ⊥
none_again changes fitting one other number place first second less =
    let mine : KnowsDelay first.front first.outcome place =
    known_delay changes first.front first.after first.outcome place fitting first.list first.tells in
    let yours : KnowsDelay second.front second.outcome place =
    known_delay changes second.front second.after second.outcome place fitting second.list second.tells in
    let came = before_that first.front second.front first.after second.after (change.Outcome first.outcome)
    (change.Outcome second.outcome) (sym first.list ∙ second.list) less in
    let same : first.outcome.message ≡ second.outcome.message = first.its_message ∙ sym second.its_message in
    let accept : mine.message.accept ≡ yours.message.accept =
    same_Some mine.message.accept yours.message.accept
    (sym (messages_kept first.front second.front
    (changes_kept first.front second.front (change.Outcome first.outcome ∷ came.0, came.1)) first.outcome.message
    mine.message.accept mine.found) ∙ ap (λ n. message_at second.front n) same ∙ yours.found) in
    let test : Change → Bool = delays_with yours.message.accept second.outcome.message place in
    let passes : test (change.Outcome first.outcome) ≡ true =
    subst (λ n. delays_with yours.message.accept n place (change.Outcome first.outcome) ≡ true) same
    (subst (λ (a : Accept). delays_with a first.outcome.message place (change.Outcome first.outcome) ≡ true) accept
    mine.delays) in
    let any : list_any test second.front ≡ true =
    ap (λ l. list_any test l) came.1 ∙ any_passes test first.front came.0 (change.Outcome first.outcome) passes in
    false≢true (sym (ap not any) ∙ yours.first)

pub delays_once : FittingDelaysOnce
delays_once changes fitting one other number place first second = elim (cases_eq one other) [
  | inl same ↦ same
  | inr off ↦ absurd (elim (apart (length first.front) (length second.front)
      (λ same. off (first.at_is ∙ ap suc same ∙ sym second.at_is))) [
        | inl less ↦ none_again changes fitting one other number place first second less
        | inr more ↦ none_again changes fitting other one number place second first more
      ])
]
