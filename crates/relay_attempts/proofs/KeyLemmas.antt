-- Numbers in a list, and in a set whose keys rise.
use Rattle.std.proofs.Common.{◌≡◌, ◌⊎◌, inl, inr, ℕ, suc, ◌+◌, ◌<◌, ◌≤◌, List, [], ◌∷◌, ◌++◌, map, length, take, get_or, refl, sym, subst, ap, ◌∙◌, arith, Contains, nat_cmp}
use Rattle.std.specs.List.{AllByRecursion}
use Rattle.std.specs.List.Sorted.{IsStrictlySortedBy}
use Rattle.std.specs.BTreeSet.{insert_key}
use Rattle.std.specs.Ordering.{match_ordering}
use Rattle.std.specs.declared.cmp.Ordering.{Ordering}
use Rattle.std.specs.declared.cmp.Ordering.TheVariants.{Less, Equal, Greater}
use Rattle.std.proofs.lemmas.List.{take_all, take_more}
use Rattle.std.proofs.lemmas.List.Elements.{Contains-append_cases, Contains-append_left, Contains-append_right, Contains-push, Contains-push_cases}
use Rattle.std.proofs.lemmas.Map.Keys.{below_from_sorted}
use Rattle.std.proofs.lemmas.Map.Lookups.{exact_unsigned}

pub in_none : {A : Type 0} (x : A) → Contains [] x → ⊥
in_none x h = omega (arith, h.1)

in_one : {A : Type 0} (x y : A) → Contains ([] ++ x ∷ []) y → x ≡ y
in_one x y h = by (Contains-push_cases [] x y h)
  where
    by : Contains [] y ⊎ (x ≡ y) → x ≡ y
    by (inl none) = absurd (in_none y none)
    by (inr same) = same

pub in_cons : {A : Type 0} (x y : A) (xs : List A) → Contains (x ∷ xs) y → (x ≡ y) ⊎ Contains xs y
in_cons x y xs h = by (Contains-append_cases (x ∷ []) xs y h)
  where
    by : Contains (x ∷ []) y ⊎ Contains xs y → (x ≡ y) ⊎ Contains xs y
    by (inl one) = inl (in_one x y one)
    by (inr more) = inr more

pub head_in : {A : Type 0} (x : A) (xs : List A) → Contains (x ∷ xs) x
head_in x xs = Contains-append_left (x ∷ []) xs x (Contains-push [] x)

pub tail_in : {A : Type 0} (x y : A) (xs : List A) → Contains xs y → Contains (x ∷ xs) y
tail_in x y xs h = Contains-append_right (x ∷ []) xs y h

insert_keeps : (keys : List ℕ) (new key : ℕ) → Contains keys key → Contains (insert_key nat_cmp keys new) key
insert_keeps [] new key h = absurd (in_none key h)
insert_keeps (first ∷ keys) new key h = by (nat_cmp new first) (insert_keeps keys new key) (in_cons first key keys h)
  where
    by : (order : Ordering) → (Contains keys key → Contains (insert_key nat_cmp keys new) key) → (first ≡ key) ⊎ Contains keys key
        → Contains (match_ordering order (new ∷ first ∷ keys) (first ∷ keys) (first ∷ insert_key nat_cmp keys new)) key
    by Less more cases = tail_in new key (first ∷ keys) h
    by Equal more cases = h
    by Greater more (inl same) = subst (λ (k : ℕ). Contains (first ∷ insert_key nat_cmp keys new) k) same (head_in first (insert_key nat_cmp keys new))
    by Greater more (inr rest) = tail_in first key (insert_key nat_cmp keys new) (more rest)

insert_has : (keys : List ℕ) (new : ℕ) → Contains (insert_key nat_cmp keys new) new
insert_has [] new = head_in new []
insert_has (first ∷ keys) new = by (nat_cmp new first) refl (insert_has keys new)
  where
    by : (order : Ordering) → nat_cmp new first ≡ order → Contains (insert_key nat_cmp keys new) new
        → Contains (match_ordering order (new ∷ first ∷ keys) (first ∷ keys) (first ∷ insert_key nat_cmp keys new)) new
    by Less e more = head_in new (first ∷ keys)
    by Equal e more = subst (λ (k : ℕ). Contains (first ∷ keys) k) (sym (exact_unsigned new first e)) (head_in first keys)
    by Greater e more = tail_in first new (insert_key nat_cmp keys new) more

-- what the set has after an insert: what it had, and the new number
pub keys_keep : (old new : List ℕ) (key : ℕ) → new ≡ insert_key nat_cmp old key → (number : ℕ) → Contains old number → Contains new number
keys_keep old new key is number h = subst (λ (l : List ℕ). Contains l number) (sym is) (insert_keeps old key number h)

-- the numbers up to the next one are there
pub keys_more : {A : Type 0} (number_of : A → ℕ) (xs : List A) (d : A) (i : ℕ) (old new : List ℕ) → i < length xs
    → new ≡ insert_key nat_cmp old (number_of (get_or xs i d))
    → ((number : ℕ) → Contains (map number_of (take i xs)) number → Contains old number)
    → (number : ℕ) → Contains (map number_of (take (i + 1) xs)) number → Contains new number
keys_more {A} number_of xs d i old new low is there number h =
    by (Contains-push_cases (map number_of (take i xs)) (number_of (get_or xs i d)) number (subst (λ (l : List ℕ). Contains l number) grown h))
  where
    mapped : (ys : List A) (y : A) → map number_of (ys ++ y ∷ []) ≡ map number_of ys ++ number_of y ∷ []
    mapped [] y = refl
    mapped (x ∷ ys) y = ap (λ (l : List ℕ). number_of x ∷ l) (mapped ys y)

    grown : map number_of (take (i + 1) xs) ≡ map number_of (take i xs) ++ number_of (get_or xs i d) ∷ []
    grown = ap (map number_of) (take_more xs i d low) ∙ mapped (take i xs) (get_or xs i d)

    by : Contains (map number_of (take i xs)) number ⊎ (number_of (get_or xs i d) ≡ number) → Contains new number
    by (inl before) = keys_keep old new (number_of (get_or xs i d)) is number (there number before)
    by (inr same) = subst (λ (l : List ℕ). Contains l number) (sym is) (subst (λ (k : ℕ). Contains (insert_key nat_cmp old (number_of (get_or xs i d))) k) same (insert_has old (number_of (get_or xs i d))))

-- numbers that rise
abbrev pub Up : ℕ → List ℕ → Type 0
Up least [] = Unit {0}
Up least (n ∷ ns) = (least ≤ n) × Up (suc n) ns

less_than : (n m : ℕ) → nat_cmp n m ≡ Less → suc n ≤ m
unfolding IsStrictlySortedBy
less_than n m e = below_from_sorted (n ∷ m ∷ []) 0 1 0 ((e, tt), (tt, tt)) (omega arith) (omega arith)

above : (n : ℕ) (ns : List ℕ) → AllByRecursion (λ m. nat_cmp n m ≡ Less) ns → AllByRecursion (λ m. suc n ≤ m) ns
above n [] less = tt
above n (m ∷ ns) less = (less_than n m less.0, above n ns less.1)

rises : (ns : List ℕ) (least : ℕ) → IsStrictlySortedBy nat_cmp ns → AllByRecursion (λ m. least ≤ m) ns → Up least ns
unfolding IsStrictlySortedBy
rises [] least sorted all = tt
rises (n ∷ ns) least sorted all = (all.0, rises ns (suc n) sorted.1 (above n ns sorted.0))

all_from_0 : (ns : List ℕ) → AllByRecursion (λ m. 0 ≤ m) ns
all_from_0 [] = tt
all_from_0 (n ∷ ns) = (omega arith, all_from_0 ns)

-- the keys of a set rise
pub keys_rise : (ns : List ℕ) → IsStrictlySortedBy nat_cmp ns → Up 0 ns
keys_rise ns sorted = rises ns 0 sorted (all_from_0 ns)

-- a smaller number is not among them
pub not_below : (m least : ℕ) (ns : List ℕ) → Up least ns → m < least → Contains ns m → ⊥
not_below m least [] up below there = in_none m there
not_below m least (n ∷ ns) up below there = by (not_below m (suc n) ns up.1 (omega (arith, below, up.0))) (in_cons n m ns there)
  where
    by : (Contains ns m → ⊥) → (n ≡ m) ⊎ Contains ns m → ⊥
    by rest (inl same) = omega (arith, same, below, up.0)
    by rest (inr more) = rest more

-- each number of the list is there
pub all_listed : (xs : List ℕ) (i : ℕ) (keys : List ℕ) → length xs ≤ i
    → ((number : ℕ) → Contains (map (λ (n : ℕ). n) (take i xs)) number → Contains keys number) → (number : ℕ) → Contains xs number → Contains keys number
all_listed xs i keys all listed number h = listed number (subst (λ (l : List ℕ). Contains l number) (sym (ap (map (λ (n : ℕ). n)) (take_all i xs all) ∙ same xs)) h)
  where
    same : (ys : List ℕ) → map (λ (n : ℕ). n) ys ≡ ys
    same [] = refl
    same (y ∷ ys) = ap (λ (l : List ℕ). y ∷ l) (same ys)
