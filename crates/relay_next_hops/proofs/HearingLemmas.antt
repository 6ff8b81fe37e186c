-- How the connections that have something to hear are gone over, number by number.
use Rattle.std.proofs.Common.{◌≡◌, ◌≢◌, ◌⊎◌, inl, inr, Bool, true, false, if◌then◌else◌, ℕ, ◌+◌, ◌-◌, ◌%◌, ◌<◌, ◌≤◌, suc, List, [], ◌∷◌, ◌++◌, length, drop, Option, None, Some, Result, Ok, Err, IfOk, IfSome, MatchOption, OnOk, refl, sym, ap, subst, ◌∙◌, arith, append_assoc}
use Rattle.std.specs.Prelude.{option_and_then, slice_set}
use Rattle.std.specs.List.{cons_option, filter_map}
use Rattle.std.proofs.lemmas.List.{append-nil}
use Rattle.relay_slots.specs.Slots.{OthersStay, slot_at}
use Rattle.relay_records.specs.declared.fault.NodeFault.{NodeFault}
use Rattle.relay_loop.specs.declared.hops.Answered.{Answered}
use Rattle.relay_loop.specs.declared.outbox.Outbox.{Outbox}
use Rattle.relay_records.specs.declared.noted.Noted.{Noted}
use Rattle.relay_log.specs.declared.hop_link.Loss.TheVariants.{Silent}
use Rattle.relay_files.specs.declared.fault.Fault.{Fault}
use Rattle.relay_connections.specs.Hearing.{turned}
use Rattle.relay_connections.specs.Channel.{unread_of}
use Rattle.relay_next_hops.specs.Deliveries.{KeepsDelivery, left_of}
use Rattle.relay_next_hops.specs.Hearing.{AnswersEach, AnswersOne, IsAnswered, IsCourse, IsLate, UsesOwn, WasLeft, hearing_at, hearing_of}
use Rattle.relay_next_hops.specs.declared.delivery.Course.{Course}
use Rattle.relay_next_hops.specs.declared.delivery.Course.TheVariants.{Stays, Ended, Lost, TurnedAway, Void}
use Rattle.relay_next_hops.proofs.SlotLemmas.{none_taken, set_beside}
use Rattle.relay_next_hops.specs.declared.hop.Hop.{Hop}

abbrev Answers : Type 0
Answers = List (Result Answered NodeFault)

-- Of so many connections those are gone over from the first on, and 0 comes after the last.
module _ (count first step : ℕ) where
  -- the numbers after the one that is looked at next
  abbrev afterwards : List ℕ
  afterwards = turned count (first + (step + 1)) (count - (step + 1))

  -- the one that is looked at next, and those after it
  pub turned_next : step < count → turned count (first + step) (count - step) ≡ (first + step) % count ∷ afterwards
  turned_next below = ap (turned count (first + step)) left ∙ ap (λ (number : ℕ). (first + step) % count ∷ turned count number (count - (step + 1))) next where
    left : count - step ≡ suc (count - (step + 1))
    left = omega (arith, below)

    next : first + step + 1 ≡ first + (step + 1)
    next = omega arith

  -- a connection that has nothing to hear is passed over
  pub passes : {S : Type 0} (tick : ℕ) (answers : Answers) (old new : List (Option (Hop S))) → step < count → hearing_at old ((first + step) % count) ≡ None → AnswersEach tick afterwards answers old new → AnswersEach tick (turned count (first + step) (count - step)) answers old new
  passes tick answers old new below none rest = subst (λ (order : List ℕ). AnswersEach tick order answers old new) (sym (turned_next below)) (inl (none, rest))

  -- no answer is left
  pub stops : {S : Type 0} (tick : ℕ) (old : List (Option (Hop S))) → step < count → hearing_at old ((first + step) % count) ≢ None → AnswersEach tick (turned count (first + step) (count - step)) [] old old
  stops tick old below some = subst (λ (order : List ℕ). AnswersEach tick order [] old old) (sym (turned_next below)) (inr (inl (some, refl, refl)))

  -- a connection that has is answered by the next
  pub hears : {S : Type 0} (tick : ℕ) (answer : Result Answered NodeFault) (rest : Answers) (old between new : List (Option (Hop S))) → step < count → hearing_at old ((first + step) % count) ≢ None → AnswersOne tick ((first + step) % count) answer old between → AnswersEach tick afterwards rest between new → AnswersEach tick (turned count (first + step) (count - step)) (answer ∷ rest) old new
  hears tick answer rest old between new below some one goes_on = subst (λ (order : List ℕ). AnswersEach tick order (answer ∷ rest) old new) (sym (turned_next below)) (inr (inr (
    some,
    record {
      answer = answer;
      rest = rest;
      answers_are = refl;
      between = between;
      one = one;
      goes_on = goes_on;
    },
  )))

module _ {X : Type 0} (f : ℕ → Option X) (found all : List X) (count first step : ℕ) (below : step < count) (so_far : found ++ filter_map f (turned count (first + step) (count - step)) ≡ all) where
  -- what the next one has to hear stands after what was found before
  pub found_next : (value : X) → f ((first + step) % count) ≡ Some value → (found ++ value ∷ []) ++ filter_map f (afterwards count first step) ≡ all
  found_next value is = append_assoc found (value ∷ []) (filter_map f (afterwards count first step)) ∙ ap (λ values. found ++ values) (sym here) ∙ so_far where
    here : filter_map f (turned count (first + step) (count - step)) ≡ value ∷ filter_map f (afterwards count first step)
    here = ap (filter_map f) (turned_next count first step below) ∙ ap (λ (value : Option X). cons_option value (filter_map f (afterwards count first step))) is

  -- it has nothing to hear, and is passed over
  pub passed_next : f ((first + step) % count) ≡ None → found ++ filter_map f (afterwards count first step) ≡ all
  passed_next is = ap (λ values. found ++ values) (sym here) ∙ so_far where
    here : filter_map f (turned count (first + step) (count - step)) ≡ filter_map f (afterwards count first step)
    here = ap (filter_map f) (turned_next count first step below) ∙ ap (λ (value : Option X). cons_option value (filter_map f (afterwards count first step))) is

-- after the last one nothing is left
pub found_all : {X : Type 0} (f : ℕ → Option X) (found all : List X) (count first step : ℕ) → count ≤ step → found ++ filter_map f (turned count (first + step) (count - step)) ≡ all → found ≡ all
found_all f found all count first step past so_far = sym (append-nil found) ∙ ap (λ (left : ℕ). found ++ filter_map f (turned count (first + step) left)) (sym none) ∙ so_far where
  none : count - step ≡ 0
  none = omega (arith, past)

-- where all was gone over, nothing is left
pub all_over : {S : Type 0} (tick count first step : ℕ) (answers : Answers) (hops : List (Option (Hop S))) → count - step ≡ 0 → AnswersEach tick (turned count (first + step) (count - step)) answers hops hops
all_over tick count first step answers hops none = subst (λ (left : ℕ). AnswersEach tick (turned count (first + step) left) answers hops hops) (sym none) refl

-- One that is left unread stays as it is.
pub left_alone : {S : Type 0} (tick : ℕ) (hops : List (Option (Hop S))) (number : ℕ) (answer : Result Answered NodeFault) → WasLeft answer → AnswersOne tick number answer hops hops
left_alone {S} tick hops number answer left = record { own = by answer (slot_at hops number) left; others = λ other apart. refl } where
  by : (answer : Result Answered NodeFault) (slot : Option (Hop S)) → WasLeft answer → IsAnswered tick answer slot slot
  by answer None left = tt
  by (Ok answered) (Some hop) left = record { goes_on = left.1; unread = inr (left, 0, refl); delivery = record { aim = refl; message = refl; name = refl } }
  by (Err fault) (Some hop) left = absurd left

-- Where none is there, none is answered.
pub none_answered : {S : Type 0} (tick : ℕ) (hops new : List (Option (Hop S))) (number : ℕ) (answer : Result Answered NodeFault) → slot_at hops number ≡ None → new ≡ slice_set hops number None → AnswersOne tick number answer hops new
none_answered {S} tick hops new number answer none rest = subst (AnswersOne tick number answer hops) (sym (rest ∙ none_taken hops number none)) (record { own = subst (λ (slot : Option (Hop S)). IsAnswered tick answer slot slot) (sym none) tt; others = λ other apart. refl })

-- One that was answered is put back, or is gone.
pub answered_by : {S : Type 0} (tick : ℕ) (hops taken new : List (Option (Hop S))) (number : ℕ) (hop after : Hop S) (course : Course) (answer : Result Answered NodeFault) → Some hop ≡ slot_at hops number → taken ≡ slice_set hops number None → slot_at new number ≡ left_of course after → OthersStay taken new number → IsAnswered tick answer (Some hop) (left_of course after) → AnswersOne tick number answer hops new
answered_by {S} tick hops taken new number hop after course answer there rest own others uses = record {
  own = subst (λ (slot : Option (Hop S)). IsAnswered tick answer slot (slot_at new number)) there (subst (IsAnswered tick answer (Some hop)) (sym own) uses);
  others = λ other apart. others other apart ∙ ap (λ hops. slot_at hops other) rest ∙ set_beside hops number None other apart;
}

-- its octets were used
pub used_own : {S : Type 0} (tick : ℕ) (answer : Result Answered NodeFault) (old new : Hop S) (course : Course) → KeepsDelivery old new → IsCourse tick answer old new course → IsAnswered tick answer (Some old) (left_of course new)
used_own tick (Err fault) old new course keeps is = subst (λ (course : Course). IsAnswered tick (Err fault) (Some old) (left_of course new)) (sym is) tt
used_own tick (Ok answered) old new course keeps is = by answered.last refl is where
  by : (last : Option Outbox) → answered.last ≡ last → MatchOption last ((unread_of new.channel ≡ drop answered.used (unread_of old.channel)) × ((course ≡ Stays) ⊎ ((course ≡ Lost Silent) × IsLate tick new))) (λ outbox. (noted : Option Noted) × (course ≡ Ended outbox noted)) → IsAnswered tick (Ok answered) (Some old) (left_of course new)
  by None none goes_on = by_course goes_on.1 where
    uses : UsesOwn answered old new
    uses = record { goes_on = none; unread = inl goes_on.0; delivery = keeps }

    by_course : (course ≡ Stays) ⊎ ((course ≡ Lost Silent) × IsLate tick new) → IsAnswered tick (Ok answered) (Some old) (left_of course new)
    by_course (inl stays) = subst (λ (course : Course). IsAnswered tick (Ok answered) (Some old) (left_of course new)) (sym stays) uses
    by_course (inr late) = subst (λ (course : Course). IsAnswered tick (Ok answered) (Some old) (left_of course new)) (sym late.0) (inr (inr (record { new = new; uses = uses; late = late.1 })))
  by (Some outbox) some ended = subst (λ (course : Course). IsAnswered tick (Ok answered) (Some old) (left_of course new)) (sym ended.1) (inl (λ none. cc (sym some ∙ none)))

-- where it stays, some of its octets were used
pub used_some : {S : Type 0} (tick : ℕ) (answer : Result Answered NodeFault) (old new : Hop S) (course : Course) → IsCourse tick answer old new course → course ≡ Stays → (used : ℕ) × (unread_of new.channel ≡ drop used (unread_of old.channel))
used_some tick (Err fault) old new course is stays = absurd (cc (sym is ∙ stays))
used_some tick (Ok answered) old new course is stays = by answered.last is where
  by : (last : Option Outbox) → MatchOption last ((unread_of new.channel ≡ drop answered.used (unread_of old.channel)) × ((course ≡ Stays) ⊎ ((course ≡ Lost Silent) × IsLate tick new))) (λ outbox. (noted : Option Noted) × (course ≡ Ended outbox noted)) → (used : ℕ) × (unread_of new.channel ≡ drop used (unread_of old.channel))
  by None goes_on = (answered.used, goes_on.0)
  by (Some outbox) ended = absurd (cc (sym ended.1 ∙ stays))

-- they were used alone
pub used_alone : {S : Type 0} (tick : ℕ) (answer : Result Answered NodeFault) (old new : Hop S) (result : Result Course Fault) → KeepsDelivery old new → WasLeft answer → IfOk result (λ course. course ≡ Stays → (used : ℕ) × (unread_of new.channel ≡ drop used (unread_of old.channel))) → IfOk result (λ course. IsAnswered tick answer (Some old) (left_of course new))
used_alone tick (Err fault) old new result keeps left used = absurd left
used_alone tick (Ok answered) old new (Err fault) keeps left used = tt
used_alone tick (Ok answered) old new (Ok Stays) keeps left used = record { goes_on = left.1; unread = inr (left, (used refl).0, (used refl).1); delivery = keeps }
used_alone tick (Ok answered) old new (Ok (Ended outbox noted)) keeps left used = inr (inl left)
used_alone tick (Ok answered) old new (Ok (Lost loss)) keeps left used = inr (inl left)
used_alone tick (Ok answered) old new (Ok TurnedAway) keeps left used = inr (inl left)
used_alone tick (Ok answered) old new (Ok Void) keeps left used = inr (inl left)

-- a list without a length has nothing in it
pub none_of : {A : Type 0} (items : List A) → length items ≡ 0 → items ≡ []
none_of [] none = refl
none_of (item ∷ items) none = absurd (omega (arith, none))

-- what holds of the value holds where there is one
pub if_some : {A : Type 0} (P : A → Type 0) (found : Option A) (value : A) → found ≡ Some value → P value → IfSome found P
if_some P found value is holds = subst (λ (found : Option _). IfSome found P) (sym is) holds

-- what holds holds after a call that was refused or not
pub on_ok : {T E : Type 0} (P : Type 0) (result : Result T E) → P → OnOk result P
on_ok P (Ok value) holds = holds
on_ok P (Err fault) holds = tt

-- the attempt of a connection that has something to hear
pub hears_as : {S : Type 0} (hops : List (Option (Hop S))) (number : ℕ) (hop : Hop S) → Some hop ≡ slot_at hops number → hearing_at hops number ≢ None → (attempt : ℕ) × (hop.attempt ≡ Some attempt) × (hearing_at hops number ≡ Some attempt)
hears_as {S} hops number hop there some = by hop.hears hop.attempt refl refl where
  here : hearing_at hops number ≡ hearing_of hop
  here = ap (option_and_then hearing_of) (sym there)

  by : (hears : Bool) (attempt : Option ℕ) → hop.hears ≡ hears → hop.attempt ≡ attempt → (attempt : ℕ) × (hop.attempt ≡ Some attempt) × (hearing_at hops number ≡ Some attempt)
  by false attempt quiet is = absurd (some (here ∙ ap (λ (hears : Bool). if hears then hop.attempt else None) quiet))
  by true None heard is = absurd (some (here ∙ ap (λ (hears : Bool). if hears then hop.attempt else None) heard ∙ is))
  by true (Some attempt) heard is = (attempt, is, here ∙ ap (λ (hears : Bool). if hears then hop.attempt else None) heard ∙ is)
