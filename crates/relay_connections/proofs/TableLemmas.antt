-- What holds of the slots after the last of a table.
use Rattle.std.proofs.Common.{◌≡◌, ◌≢◌, ◌⊎◌, inl, inr, ℕ, ◌+◌, ◌-◌, ◌<◌, zero, suc, Bool, true, false, List, [], ◌∷◌, length, drop, drop-cons, drop_of_length-le, add-one, ◌≤◌, Option, None, Some, is_some, refl, sym, ap, ◌∙◌, subst, arith, if◌then◌else◌}
use Rattle.std.proofs.Math.Nat.{eq-or-lt_of_le}
use Rattle.std.proofs.lemmas.Bool.{cases_eq}
use Rattle.relay_slots.specs.Slots.{AreFree, OthersStay, slot_at}
use Rattle.relay_connections.specs.Table.{AreFreeFrom, count_of_such, is_such}
use Rattle.relay_connections.proofs.LeftLemmas.{below_or_after, none_after}

-- in a free table nothing stands anywhere
pub free_at : {A : Type 0} (slots : List (Option A)) → AreFree slots → (number : ℕ) → slot_at slots number ≡ None
free_at [] free number = refl
free_at (None ∷ slots) free zero = refl
free_at (None ∷ slots) free (suc number) = free_at slots free number
free_at (Some value ∷ slots) free number = absurd free

-- what doesn't hold a value is none
pub none_of : {A : Type 0} (slot : Option A) → is_some slot ≡ false → slot ≡ None
none_of None not = refl
none_of (Some value) not = absurd (cc not)

-- where nothing stands after a slot, nor in it, nothing stands from it on
pub free_from_before : {A : Type 0} (slots : List (Option A)) (end : ℕ) → 0 < end → AreFreeFrom slots end → slot_at slots (end - 1) ≡ None → AreFreeFrom slots (end - 1)
free_from_before slots end some free none number after = by (eq-or-lt_of_le after) where
  by : (end - 1 ≡ number) ⊎ (end - 1 < number) → slot_at slots number ≡ None
  by (inl same) = subst (λ at. slot_at slots at ≡ None) same none
  by (inr past) = free number (omega (arith, some, past))

-- one slot more is passed over
passed_over : {A : Type 0} (such : A → Bool) (slots : List (Option A)) (number : ℕ) → number < length slots
    → count_of_such such (drop number slots) ≡ (if is_such such (slot_at slots number) then 1 else 0) + count_of_such such (drop (number + 1) slots)
passed_over such slots number low =
    ap (count_of_such such) (drop-cons slots number None low)
    ∙ ap (λ (next : ℕ). (if is_such such (slot_at slots number) then 1 else 0) + count_of_such such (drop next slots)) (sym (add-one number))

-- such a one stands in it, or not
pub counted_one : {A : Type 0} (such : A → Bool) (slots : List (Option A)) (number : ℕ) → number < length slots → is_such such (slot_at slots number) ≡ true
    → count_of_such such (drop number slots) ≡ 1 + count_of_such such (drop (number + 1) slots)
counted_one such slots number low is =
    passed_over such slots number low ∙ ap (λ (counts : Bool). (if counts then 1 else 0) + count_of_such such (drop (number + 1) slots)) is

pub counted_none : {A : Type 0} (such : A → Bool) (slots : List (Option A)) (number : ℕ) → number < length slots → is_such such (slot_at slots number) ≡ false
    → count_of_such such (drop number slots) ≡ 0 + count_of_such such (drop (number + 1) slots)
counted_none such slots number low is =
    passed_over such slots number low ∙ ap (λ (counts : Bool). (if counts then 1 else 0) + count_of_such such (drop (number + 1) slots)) is

-- slots that hold the same hold as many
pub same_count : {A : Type 0} (such : A → Bool) (one other : List (Option A)) → ((number : ℕ) → slot_at one number ≡ slot_at other number)
    → count_of_such such one ≡ count_of_such such other
same_count such [] [] same = refl
same_count such [] (slot ∷ other) same =
    let here : ◌≡◌ {A = ℕ} (if is_such such slot then 1 else 0) 0 = ap (λ (slot : Option _). if is_such such slot then 1 else 0) (sym (same zero)) in
    let rest : count_of_such such other ≡ 0 = sym (same_count such [] other (λ number. same (suc number))) in
    omega (arith, here, rest)
same_count such (slot ∷ one) [] same =
    let here : ◌≡◌ {A = ℕ} (if is_such such slot then 1 else 0) 0 = ap (λ (slot : Option _). if is_such such slot then 1 else 0) (same zero) in
    let rest : count_of_such such one ≡ 0 = same_count such one [] (λ number. same (suc number)) in
    omega (arith, here, rest)
same_count such (slot ∷ one) (value ∷ other) same =
    ap (λ (slot : Option _). (if is_such such slot then 1 else 0) + count_of_such such one) (same zero)
    ∙ ap (λ (count : ℕ). (if is_such such value then 1 else 0) + count) (same_count such one other (λ number. same (suc number)))

-- a slot holds one, or none
pub such_is_some : {A : Type 0} (slot : Option A) → is_some slot ≡ is_such (λ (value : A). true) slot
such_is_some None = refl
such_is_some (Some value) = refl

-- after the last slot nothing is left to count
pub none_left : {A : Type 0} (such : A → Bool) (slots : List (Option A)) (number count : ℕ) → length slots ≤ number
    → count + count_of_such such (drop number slots) ≡ count_of_such such slots → count ≡ count_of_such such slots
none_left such slots number count past is =
    let rest : count_of_such such (drop number slots) ≡ 0 = ap (count_of_such such) (drop_of_length-le slots past) in
    omega (arith, rest, is)

-- one slot more is free
pub free_more : {A : Type 0} (old new : List (Option A)) (next : ℕ) → ((number : ℕ) → number < next → slot_at old number ≡ None) → slot_at new next ≡ None → OthersStay old new next
    → (number : ℕ) → number < next + 1 → slot_at new number ≡ None
free_more old new next before here others number below = by (cases_eq number next) where
  by : (number ≡ next) ⊎ (number ≡ next → ⊥) → slot_at new number ≡ None
  by (inl same) = subst (λ (at : ℕ). slot_at new at ≡ None) (sym same) here
  by (inr apart) = others number apart ∙ before number (omega (arith, below, apart))

-- from a slot on nothing stands, also after another one is emptied
pub still_free : {A : Type 0} (old new : List (Option A)) (number count : ℕ) → ((other : ℕ) → count ≤ other → slot_at old other ≡ None) → slot_at new number ≡ None → OthersStay old new number
    → (other : ℕ) → count ≤ other → slot_at new other ≡ None
still_free old new number count free here others other past = by (cases_eq other number) where
  by : (other ≡ number) ⊎ (other ≡ number → ⊥) → slot_at new other ≡ None
  by (inl same) = subst (λ (at : ℕ). slot_at new at ≡ None) (sym same) here
  by (inr apart) = others other apart ∙ free other past

-- where nothing stands in any slot, the table is free
free_of : {A : Type 0} (slots : List (Option A)) → ((number : ℕ) → slot_at slots number ≡ None) → AreFree slots
free_of [] none = tt
free_of (None ∷ slots) none = free_of slots (λ number. none (suc number))
free_of (Some value ∷ slots) none = absurd (cc (none zero))

pub all_free : {A : Type 0} (slots : List (Option A)) (number count : ℕ) → count ≤ number → ((other : ℕ) → other < number → slot_at slots other ≡ None) → ((other : ℕ) → count ≤ other → slot_at slots other ≡ None) → AreFree slots
all_free slots number count past before free = free_of slots (λ other. by other (below_or_after other number)) where
  by : (other : ℕ) → (other < number) ⊎ (number ≤ other) → slot_at slots other ≡ None
  by other (inl low) = before other low
  by other (inr high) = free other (omega (arith, past, high))

-- how many such ones stand in a slot
abbrev one_of : {A : Type 0} → (A → Bool) → Option A → ℕ
one_of such slot = if is_such such slot then 1 else 0

suc_apart : (other number : ℕ) → other ≢ number → suc other ≢ suc number
suc_apart other number apart same = apart (omega (arith, same))

zero_apart : (other : ℕ) → suc other ≢ zero
zero_apart other same = absurd (omega (arith, same))

-- where all other slots hold the same, the counts differ by what stands in the one
pub changed_count : {A : Type 0} (such : A → Bool) (old new : List (Option A)) (number : ℕ) → OthersStay old new number
    → count_of_such such new + one_of such (slot_at old number) ≡ count_of_such such old + one_of such (slot_at new number)
changed_count such [] [] number others = refl
changed_count such [] (slot ∷ new) zero others =
    let rest : count_of_such such new ≡ 0 = same_count such new [] (λ other. others (suc other) (zero_apart other)) in
    omega (arith, rest)
changed_count such [] (slot ∷ new) (suc number) others =
    let here : one_of such slot ≡ 0 = ap (one_of such) (others zero (λ same. absurd (omega (arith, same)))) in
    let rest = changed_count such [] new number (λ other apart. others (suc other) (suc_apart other number apart)) in
    omega (arith, here, rest)
changed_count such (slot ∷ old) [] zero others =
    let rest : 0 ≡ count_of_such such old = same_count such [] old (λ other. others (suc other) (zero_apart other)) in
    omega (arith, rest)
changed_count such (slot ∷ old) [] (suc number) others =
    let here : 0 ≡ one_of such slot = ap (one_of such) (others zero (λ same. absurd (omega (arith, same)))) in
    let rest = changed_count such old [] number (λ other apart. others (suc other) (suc_apart other number apart)) in
    omega (arith, here, rest)
changed_count such (slot ∷ old) (value ∷ new) zero others =
    let rest : count_of_such such new ≡ count_of_such such old = same_count such new old (λ other. others (suc other) (zero_apart other)) in
    omega (arith, rest)
changed_count such (slot ∷ old) (value ∷ new) (suc number) others =
    let here : one_of such value ≡ one_of such slot = ap (one_of such) (others zero (λ same. absurd (omega (arith, same)))) in
    let rest = changed_count such old new number (λ other apart. others (suc other) (suc_apart other number apart)) in
    omega (arith, here, rest)

-- one goes from a slot
pub count_less : {A : Type 0} (old new : List (Option A)) (number : ℕ) (value : A) → slot_at old number ≡ Some value → slot_at new number ≡ None → OthersStay old new number
    → 1 + count_of_such (λ (value : A). true) new ≡ count_of_such (λ (value : A). true) old
count_less old new number value there gone others =
    let changed = changed_count (λ (value : _). true) old new number others in
    let was : one_of (λ (value : _). true) (slot_at old number) ≡ 1 = ap (one_of (λ (value : _). true)) there in
    let is : one_of (λ (value : _). true) (slot_at new number) ≡ 0 = ap (one_of (λ (value : _). true)) gone in
    omega (arith, changed, was, is)

-- another takes its place
pub count_same : {A : Type 0} (old new : List (Option A)) (number : ℕ) (value later : A) → slot_at old number ≡ Some value → slot_at new number ≡ Some later → OthersStay old new number
    → 0 + count_of_such (λ (value : A). true) new ≡ count_of_such (λ (value : A). true) old
count_same old new number value later there stands others =
    let changed = changed_count (λ (value : _). true) old new number others in
    let was : one_of (λ (value : _). true) (slot_at old number) ≡ 1 = ap (one_of (λ (value : _). true)) there in
    let is : one_of (λ (value : _). true) (slot_at new number) ≡ 1 = ap (one_of (λ (value : _). true)) stands in
    omega (arith, changed, was, is)

-- slots that are changed one by one, from the first on
module _ {A : Type 0} (Becomes : Option A → Option A → Type 0) (first old new : List (Option A)) (next : ℕ) (left : (number : ℕ) → next ≤ number → slot_at old number ≡ slot_at first number)
    (others : OthersStay old new next) where
  pub done_more : ((number : ℕ) → number < next → Becomes (slot_at first number) (slot_at old number)) → Becomes (slot_at old next) (slot_at new next)
      → (number : ℕ) → number < next + 1 → Becomes (slot_at first number) (slot_at new number)
  done_more before here number below = by (cases_eq number next) where
    by : (number ≡ next) ⊎ (number ≡ next → ⊥) → Becomes (slot_at first number) (slot_at new number)
    by (inl same) =
        subst (λ (at : ℕ). Becomes (slot_at first at) (slot_at new at)) (sym same) (subst (λ (slot : Option A). Becomes slot (slot_at new next)) (left next (omega arith)) here)
    by (inr apart) = subst (λ (slot : Option A). Becomes (slot_at first number) slot) (sym (others number apart)) (before number (omega (arith, below, apart)))

  pub left_more : (number : ℕ) → next + 1 ≤ number → slot_at new number ≡ slot_at first number
  left_more number past = others number (λ same. absurd (omega (arith, same, past))) ∙ left number (omega (arith, past))

-- all slots were changed that hold something
pub all_done : {A : Type 0} (Becomes : Option A → Option A → Type 0) (standing first last : List (Option A)) (next : ℕ) → ((number : ℕ) → slot_at standing number ≡ slot_at first number) → length standing ≤ next
    → ((number : ℕ) → number < next → Becomes (slot_at first number) (slot_at last number)) → ((number : ℕ) → next ≤ number → slot_at last number ≡ slot_at first number) → Becomes None None
    → (number : ℕ) → Becomes (slot_at first number) (slot_at last number)
all_done Becomes standing first last next same passed before left none number = by (below_or_after number next) where
  by : (number < next) ⊎ (next ≤ number) → Becomes (slot_at first number) (slot_at last number)
  by (inl below) = before number below
  by (inr past) =
      let free : slot_at first number ≡ None = sym (same number) ∙ none_after standing number (omega (arith, passed, past)) in
      subst (λ (slot : Option _). Becomes slot (slot_at last number)) (sym free) (subst (λ (slot : Option _). Becomes None slot) (sym (left number past ∙ free)) none)
