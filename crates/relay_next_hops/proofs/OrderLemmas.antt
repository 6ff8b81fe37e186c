-- In which order connections are gone over: only the first of them stand, and that of all is the same without the others.
use Rattle.std.proofs.Common.{◌≡◌, ◌⊎◌, inl, inr, ℕ, ◌+◌, ◌-◌, ◌%◌, ◌<◌, ◌≤◌, zero, suc, List, [], ◌∷◌, ◌++◌, length, Option, None, Result, refl, sym, ap, subst, ◌∙◌, arith}
use Rattle.std.specs.Prelude.{option_and_then}
use Rattle.std.specs.List.{cons_option, filter_map, range_with_len}
use Rattle.std.proofs.lemmas.Nat.{mod-mul-add}
use Rattle.relay_slots.specs.Slots.{slot_at}
use Rattle.relay_records.specs.declared.fault.NodeFault.{NodeFault}
use Rattle.relay_loop.specs.declared.hops.Answered.{Answered}
use Rattle.relay_connections.specs.Hearing.{turned}
use Rattle.relay_next_hops.specs.Hearing.{AnswersEach, hearing_at, hearing_of, order_of}
use Rattle.relay_next_hops.specs.declared.hop.Hop.{Hop}
use Rattle.relay_next_hops.specs.declared.hops.Hops.{Hops}
use Rattle.std.proofs.lemmas.Bool.{cases_lt}

below_is : (number slots : ℕ) → number < slots → number % slots ≡ number
below_is number slots low = ap (λ (sum : ℕ). sum % slots) (omega arith) ∙ mod-mul-add 0 slots number low

past_is : (number slots : ℕ) → number < slots → (slots + number) % slots ≡ number
past_is number slots low = ap (λ (sum : ℕ). sum % slots) (omega arith) ∙ mod-mul-add 1 slots number low

-- no number is turned while there are slots
turned_range : (slots number count : ℕ) → number + count ≤ slots → turned slots number count ≡ range_with_len number count
turned_range slots number zero within = refl
turned_range slots number (suc count) within =
    ap (λ (first : ℕ). first ∷ turned slots (number + 1) count) (below_is number slots (omega (arith, within)))
    ∙ ap (λ (rest : List ℕ). number ∷ rest) (turned_range slots (number + 1) count (omega (arith, within)))

-- the last slot is after, and it begins anew
turned_anew : (slots number count : ℕ) → number + count ≤ slots → turned slots (slots + number) count ≡ range_with_len number count
turned_anew slots number zero within = refl
turned_anew slots number (suc count) within =
    ap (λ (first : ℕ). first ∷ turned slots (slots + number + 1) count) (past_is number slots (omega (arith, within)))
    ∙ ap (λ (next : ℕ). number ∷ turned slots next count) next
    ∙ ap (λ (rest : List ℕ). number ∷ rest) (turned_anew slots (number + 1) count (omega (arith, within)))
  where
    next : slots + number + 1 ≡ slots + (number + 1)
    next = omega arith

turned_split : (slots number one other : ℕ) → turned slots number (one + other) ≡ turned slots number one ++ turned slots (number + one) other
turned_split slots number zero other = ap (turned slots number) none ∙ ap (λ (next : ℕ). turned slots next other) next where
  none : 0 + other ≡ other
  none = omega arith

  next : number ≡ number + 0
  next = omega arith
turned_split slots number (suc one) other =
    ap (turned slots number) more
    ∙ ap (λ (rest : List ℕ). number % slots ∷ rest) (turned_split slots (number + 1) one other)
    ∙ ap (λ (next : ℕ). (number % slots ∷ turned slots (number + 1) one) ++ turned slots next other) next
  where
    more : suc one + other ≡ suc (one + other)
    more = omega arith

    next : number + 1 + one ≡ number + suc one
    next = omega arith

-- from the first on to the last, and then from 0 on
in_order : (slots first : ℕ) → first ≤ slots → turned slots first slots ≡ range_with_len first (slots - first) ++ range_with_len 0 first
in_order slots first within =
    ap (turned slots first) all
    ∙ turned_split slots first (slots - first) first
    ∙ ap (λ (numbers : List ℕ). numbers ++ turned slots (first + (slots - first)) first) (turned_range slots first (slots - first) (omega (arith, within)))
    ∙ ap (λ (numbers : List ℕ). range_with_len first (slots - first) ++ numbers) (ap (λ (next : ℕ). turned slots next first) anew ∙ turned_anew slots 0 first (omega (arith, within)))
  where
    all : slots ≡ slots - first + first
    all = omega (arith, within)

    anew : first + (slots - first) ≡ slots + 0
    anew = omega (arith, within)

module _ (count : ℕ) where
  -- the longer list has these numbers in this order, and between them numbers that aren't below the count
  abbrev pub Pads : List ℕ → List ℕ → Type 0
  Pads short [] = short ≡ []
  Pads short (number ∷ long) = ((count ≤ number) × Pads short long) ⊎ ((rest : List ℕ) × (short ≡ number ∷ rest) × Pads rest long)

  same_pads : (numbers : List ℕ) → Pads numbers numbers
  same_pads [] = refl
  same_pads (number ∷ numbers) = inr (numbers, refl, same_pads numbers)

  none_pads : (from left : ℕ) → count ≤ from → Pads [] (range_with_len from left)
  none_pads from zero after = refl
  none_pads from (suc left) after = inl (after, none_pads (from + 1) left (omega (arith, after)))

  longer_pads : (from left more : ℕ) → count ≤ from + left → Pads (range_with_len from left) (range_with_len from (left + more))
  longer_pads from zero more after = subst (λ (all : ℕ). Pads [] (range_with_len from all)) all (none_pads from more (omega (arith, after))) where
    all : more ≡ 0 + more
    all = omega arith
  longer_pads from (suc left) more after = subst (λ (all : ℕ). Pads (range_with_len from (suc left)) (range_with_len from all)) all (inr (range_with_len (from + 1) left, refl, longer_pads (from + 1) left more (omega (arith, after)))) where
    all : suc (left + more) ≡ suc left + more
    all = omega arith

  joined_pads : (short long more longer : List ℕ) → Pads short long → Pads more longer → Pads (short ++ more) (long ++ longer)
  joined_pads short [] more longer pads others = subst (λ (short : List ℕ). Pads (short ++ more) longer) (sym pads) others
  joined_pads short (number ∷ long) more longer (inl pads) others = inl (pads.0, joined_pads short long more longer pads.1 others)
  joined_pads short (number ∷ long) more longer (inr pads) others = inr (pads.0 ++ more, ap (λ (short : List ℕ). short ++ more) pads.1, joined_pads pads.0 long more longer pads.2 others)

  -- of the first so many in their order, that of all has these numbers in the same order
  pub round_pads : (first start : ℕ) → count ≤ 64 → first < 64 → (first < count → start ≡ first) → (count ≤ first → start ≡ 0) → Pads (turned count start count) (turned 64 first 64)
  round_pads first start within low goes_on anew = by (cases_lt first count) where
    by : (first < count) ⊎ (count ≤ first) → Pads (turned count start count) (turned 64 first 64)
    by (inl below) =
        subst (λ (short : List ℕ). Pads short (turned 64 first 64)) (sym (ap (λ (start : ℕ). turned count start count) (goes_on below) ∙ in_order count first (omega (arith, below))))
        (subst (Pads (range_with_len first (count - first) ++ range_with_len 0 first)) (sym (in_order 64 first (omega (arith, low))))
        (joined_pads (range_with_len first (count - first)) (range_with_len first (64 - first)) (range_with_len 0 first) (range_with_len 0 first)
        (subst (λ (all : ℕ). Pads (range_with_len first (count - first)) (range_with_len first all)) all (longer_pads first (count - first) (64 - count) (omega (arith, below))))
        (same_pads (range_with_len 0 first))))
      where
        all : count - first + (64 - count) ≡ 64 - first
        all = omega (arith, below, within)
    by (inr after) =
        subst (λ (short : List ℕ). Pads short (turned 64 first 64)) (sym (ap (λ (start : ℕ). turned count start count) (anew after) ∙ turned_range count 0 count (omega arith)))
        (subst (Pads (range_with_len 0 count)) (sym (in_order 64 first (omega (arith, low))))
        (joined_pads [] (range_with_len first (64 - first)) (range_with_len 0 count) (range_with_len 0 first)
        (none_pads first (64 - first) after)
        (subst (λ (all : ℕ). Pads (range_with_len 0 count) (range_with_len 0 all)) all (longer_pads 0 count (first - count) (omega arith)))))
      where
        all : count + (first - count) ≡ first
        all = omega (arith, after)

  -- what is found of the one order is found of the other, where nothing is found under the other numbers
  pub same_found : {X : Type 0} (f : ℕ → Option X) → ((number : ℕ) → count ≤ number → f number ≡ None) → (short long : List ℕ) → Pads short long → filter_map f short ≡ filter_map f long
  same_found f none short [] pads = ap (filter_map f) pads
  same_found f none short (number ∷ long) (inl pads) = same_found f none short long pads.1 ∙ ap (λ value. cons_option value (filter_map f long)) (sym (none number pads.0))
  same_found f none short (number ∷ long) (inr pads) = ap (filter_map f) pads.1 ∙ ap (cons_option (f number)) (same_found f none pads.0 long pads.2)

  -- what is answered in the one order is answered in the other, where nothing stands under the other numbers
  pub same_answered : {S : Type 0} (tick : ℕ) (short long : List ℕ) (answers : List (Result Answered NodeFault)) (old new : List (Option (Hop S))) → Pads short long → ((number : ℕ) → count ≤ number → slot_at old number ≡ None) → AnswersEach tick short answers old new → AnswersEach tick long answers old new
  same_answered {S} tick short [] answers old new pads none each = subst (λ (order : List ℕ). AnswersEach tick order answers old new) pads each
  same_answered {S} tick short (number ∷ long) answers old new (inl pads) none each = inl (ap (option_and_then hearing_of) (none number pads.0), same_answered tick short long answers old new pads.1 none each)
  same_answered {S} tick short (number ∷ long) answers old new (inr pads) none each = by (λ answers old. same_answered tick pads.0 long answers old new pads.2) (subst (λ (order : List ℕ). AnswersEach tick order answers old new) pads.1 each) where
    by : ((answers : List (Result Answered NodeFault)) (old : List (Option (Hop S))) → ((number : ℕ) → count ≤ number → slot_at old number ≡ None) → AnswersEach tick pads.0 answers old new → AnswersEach tick long answers old new) → AnswersEach tick (number ∷ pads.0) answers old new → AnswersEach tick (number ∷ long) answers old new
    by others (inl silent) = inl (silent.0, others answers old none silent.1)
    by others (inr (inl over)) = inr (inl over)
    by others (inr (inr next)) = inr (inr (
      next.0,
      record {
        answer = next.1.answer;
        rest = next.1.rest;
        answers_are = next.1.answers_are;
        between = next.1.between;
        one = next.1.one;
        goes_on = others next.1.rest next.1.between still next.1.goes_on;
      },
    )) where
      still : (other : ℕ) → count ≤ other → slot_at next.1.between other ≡ None
      still other past = next.1.one.others other (λ same. next.0 (ap (hearing_at old) (sym same) ∙ ap (option_and_then hearing_of) (none other past))) ∙ none other past

-- after the last slot nothing stands
beyond : {A : Type 0} (slots : List (Option A)) (number : ℕ) → length slots ≤ number → slot_at slots number ≡ None
beyond [] number past = refl
beyond (slot ∷ slots) zero past = absurd (omega (arith, past))
beyond (slot ∷ slots) (suc number) past = beyond slots number (omega (arith, past))

-- the order in which all are served
order_is : {S : Type 0} (served : Hops S) → turned 64 (served.first % 64) 64 ≡ order_of served
unfolding order_of
order_is served = refl

-- Those that stand are the first so many.
module _ {S : Type 0} (served : Hops S) (standing : List (Option (Hop S))) (slots : (number : ℕ) → slot_at standing number ≡ slot_at served.hops number) (count start : ℕ) (all : count ≡ length standing) (within : length standing ≤ 64) (goes_on : served.first % 64 < count → start ≡ served.first % 64) (anew : count ≤ served.first % 64 → start ≡ 0) where
  none_after : (number : ℕ) → count ≤ number → slot_at served.hops number ≡ None
  none_after number past = sym (slots number) ∙ beyond standing number (omega (arith, all, past))

  pads : Pads count (turned count start count) (order_of served)
  pads = subst (Pads count (turned count start count)) (order_is served) (round_pads count (served.first % 64) start (omega (arith, all, within)) (omega arith) goes_on anew)

  begins : turned count (start + 0) (count - 0) ≡ turned count start count
  begins = ap (λ (from : ℕ). turned count from (count - 0)) from ∙ ap (turned count start) left where
    from : start + 0 ≡ start
    from = omega arith

    left : count - 0 ≡ count
    left = omega arith

  -- what is found among them is all that is found
  pub round_found : {X : Type 0} (f : Option (Hop S) → Option X) → f None ≡ None → filter_map (λ number. f (slot_at served.hops number)) (turned count (start + 0) (count - 0)) ≡ filter_map (λ number. f (slot_at served.hops number)) (order_of served)
  round_found f none = ap (filter_map (λ number. f (slot_at served.hops number))) begins ∙ same_found count (λ number. f (slot_at served.hops number)) (λ number past. ap f (none_after number past) ∙ none) (turned count start count) (order_of served) pads

  -- where they are answered, all are
  pub round_answered : (tick : ℕ) (answers : List (Result Answered NodeFault)) (new : List (Option (Hop S))) → AnswersEach tick (turned count (start + 0) (count - 0)) answers served.hops new → AnswersEach tick (order_of served) answers served.hops new
  round_answered tick answers new each = same_answered count tick (turned count start count) (order_of served) answers served.hops new pads none_after (subst (λ (order : List ℕ). AnswersEach tick order answers served.hops new) begins each)

-- the number that is served first is one of those that stand
pub first_low : (served count first : ℕ) → (served % 64 < count → first ≡ served % 64) → (count ≤ served % 64 → first ≡ 0) → 0 < count → first < count
first_low served count first goes_on over some = by (cases_lt (served % 64) count) where
  by : (served % 64 < count) ⊎ (count ≤ served % 64) → first < count
  by (inl low) = omega (arith, goes_on low, low)
  by (inr beyond) = omega (arith, over beyond, some)
