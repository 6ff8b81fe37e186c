-- Rows of bits: which numbers are marked in them.
use Rattle.std.proofs.Common.{◌≡◌, ◌≢◌, ◌⊎◌, inl, inr, ℕ, zero, suc, ◌+◌, ◌*◌, ◌-◌, ◌/◌, ◌%◌, ◌<◌, ◌≤◌, ◌^◌, List, [], ◌∷◌, ◌++◌, length, get_or, drop, Contains, refl, sym, ap, subst, ◌∙◌, arith, bit_or, add-one}
use Rattle.std.proofs.Math.Seq.{drop-cons}
use Rattle.std.proofs.lemmas.List.{get_or-set_other, get_or-set_same}
use Rattle.std.specs.Int.{bit_at, w64, trailing_ones}
use Rattle.std.proofs.lemmas.List.{length-set}
use Rattle.std.proofs.lemmas.List.Concat.{flat_map-cons}
use Rattle.std.proofs.lemmas.Bool.{cases_lt, cases_eq}
use Rattle.std.proofs.lemmas.List.{get_or-replicate, length-replicate, set_past, get_or_past, length-append}
use Rattle.std.proofs.lemmas.Nat.Bits.{bit_at_set_same, bit_at_set_other, bit_at-zero, bit_at-trailing_ones, bit_at_ones}
use Rattle.relay_report.specs.Marks.{IsMarked, empty_row, marked_one, marked, IsLeastUnmarked}
use Rattle.relay_report.specs.Numbers.{beginnings, all_begun, IsLeastOutside}
use Rattle.relay_report.proofs.NumberLemmas.{none_in, one_of, here, later}
use Rattle.relay_report.proofs.BegunLemmas.{beginnings_last, beginnings_next, beginnings_none}
use Rattle.relay_report.proofs.RowLemmas.{all_below_are_many}

-- one more number of those that a number begins with
pub mark_next : (words target : List ℕ) (left rest : ℕ) → 0 < left → 10 ≤ rest → marked words (beginnings left rest) ≡ target
    → marked (marked_one words rest) (beginnings (left - 1) (rest / 10)) ≡ target
mark_next words target zero rest some high so = absurd (omega arith)
mark_next words target (suc left) rest some high so =
    let one : left ≡ suc left - 1 = omega arith in
    subst (λ d. marked (marked_one words rest) (beginnings d (rest / 10)) ≡ target) one (sym (ap (marked words) (beginnings_next left rest high)) ∙ so)

-- the last one
pub mark_last : (words target : List ℕ) (left rest : ℕ) → 0 < left → rest < 10 → marked words (beginnings left rest) ≡ target → marked_one words rest ≡ target
mark_last words target zero rest some low so = absurd (omega arith)
mark_last words target (suc left) rest some low so = sym (ap (marked words) (beginnings_last left rest low)) ∙ so

length_one : (words : List ℕ) (number : ℕ) → length (marked_one words number) ≡ length words
unfolding marked_one
length_one words number = length-set words (number / 64) (bit_or (get_or words (number / 64) 0) (1 * 2 ^ (number % 64) % 2 ^ 64))

past_row : (words : List ℕ) (number : ℕ) → length words ≤ number / 64 → marked_one words number ≡ words
unfolding marked_one
past_row words number past = set_past words (number / 64) (bit_or (get_or words (number / 64) 0) (1 * 2 ^ (number % 64) % 2 ^ 64)) past

own_word : (words : List ℕ) (number : ℕ) → number / 64 < length words
    → get_or (marked_one words number) (number / 64) 0 ≡ bit_or (get_or words (number / 64) 0) (1 * 2 ^ (number % 64) % 2 ^ 64)
unfolding marked_one
own_word words number within = get_or-set_same words (number / 64) (bit_or (get_or words (number / 64) 0) (1 * 2 ^ (number % 64) % 2 ^ 64)) 0 within

other_word : (words : List ℕ) (number place : ℕ) → (place ≢ number / 64) → get_or (marked_one words number) place 0 ≡ get_or words place 0
unfolding marked_one
other_word words number place other = get_or-set_other words (number / 64) place (bit_or (get_or words (number / 64) 0) (1 * 2 ^ (number % 64) % 2 ^ 64)) 0 other

-- the bit of the number itself
own_bit : (words : List ℕ) (number : ℕ) → number / 64 < length words → IsMarked (marked_one words number) number
own_bit words number within =
    ap (λ w. bit_at w (number % 64)) (own_word words number within) ∙ bit_at_set_same w64 (get_or words (number / 64) 0) (number % 64) (omega arith)

-- another bit of its word
near_bit : (words : List ℕ) (number other : ℕ) → number / 64 < length words → other / 64 ≡ number / 64 → (other % 64 ≢ number % 64)
    → bit_at (get_or (marked_one words number) (other / 64) 0) (other % 64) ≡ bit_at (get_or words (other / 64) 0) (other % 64)
near_bit words number other within same differs =
    ap (λ p. bit_at (get_or (marked_one words number) p 0) (other % 64)) same ∙ ap (λ w. bit_at w (other % 64)) (own_word words number within)
    ∙ bit_at_set_other w64 (get_or words (number / 64) 0) (number % 64) (omega arith) (other % 64) differs ∙ ap (λ p. bit_at (get_or words p 0) (other % 64)) (sym same)

-- a bit stays, but for the number's own
other_bit : (words : List ℕ) (number other : ℕ) → (other ≢ number)
    → bit_at (get_or (marked_one words number) (other / 64) 0) (other % 64) ≡ bit_at (get_or words (other / 64) 0) (other % 64)
other_bit words number other differs = split (cases_lt (number / 64) (length words)) (cases_eq (other / 64) (number / 64))
  where
    split : (number / 64 < length words) ⊎ (length words ≤ number / 64) → (other / 64 ≡ number / 64) ⊎ (other / 64 ≡ number / 64 → ⊥)
        → bit_at (get_or (marked_one words number) (other / 64) 0) (other % 64) ≡ bit_at (get_or words (other / 64) 0) (other % 64)
    split (inr past) same = ap (λ l. bit_at (get_or l (other / 64) 0) (other % 64)) (past_row words number past)
    split (inl within) (inr not_same) = ap (λ w. bit_at w (other % 64)) (other_word words number (other / 64) not_same)
    split (inl within) (inl same) = near_bit words number other within same (λ e. differs (omega (arith, same, e)))

one_keeps : (words : List ℕ) (number other : ℕ) → number < 64 * length words → IsMarked words other → IsMarked (marked_one words number) other
one_keeps words number other within is = split (cases_eq other number)
  where
    split : (other ≡ number) ⊎ (other ≡ number → ⊥) → IsMarked (marked_one words number) other
    split (inl same) = subst (IsMarked (marked_one words number)) (sym same) (own_bit words number (omega (arith, within)))
    split (inr differs) = other_bit words number other differs ∙ is

-- the bits of these numbers are set, and the others stay
pub record Marks (words numbers new : List ℕ) : Type 0 where
  pub size : length new ≡ length words
  pub finds : (k : ℕ) → k < 64 * length words → Contains numbers k → IsMarked new k
  pub keeps : (k : ℕ) → k < 64 * length words → IsMarked words k → IsMarked new k
  pub only : (k : ℕ) → k < 64 * length words → IsMarked new k → IsMarked words k ⊎ Contains numbers k

-- one number more
one_mark : (words : List ℕ) (number k : ℕ) → k < 64 * length words → (k ≡ number) ⊎ (k ≡ number → ⊥) → IsMarked words k → IsMarked (marked_one words number) k
one_mark words number k within (inl same) is = subst (IsMarked (marked_one words number)) (sym same) (own_bit words number (omega (arith, within, same)))
one_mark words number k within (inr differs) is = other_bit words number k differs ∙ is

one_only : (words : List ℕ) (number k : ℕ) → (k ≡ number) ⊎ (k ≡ number → ⊥) → IsMarked (marked_one words number) k → IsMarked words k ⊎ (number ≡ k)
one_only words number k (inl same) is = inr (sym same)
one_only words number k (inr differs) is = inl (sym (other_bit words number k differs) ∙ is)

pub marks : (words numbers : List ℕ) → Marks words numbers (marked words numbers)
marks words [] = record {
  size = refl;
  finds = λ k within has. absurd (none_in k has);
  keeps = λ k within is. is;
  only = λ k within is. inl is;
}
marks words (number ∷ numbers) = step (marks (marked_one words number) numbers)
  where
    long : length (marked_one words number) ≡ length words
    long = length_one words number

    reach : (k : ℕ) → k < 64 * length words → k < 64 * length (marked_one words number)
    reach k within = omega (arith, within, long)

    step : Marks (marked_one words number) numbers (marked (marked_one words number) numbers) → Marks words (number ∷ numbers) (marked (marked_one words number) numbers)
    step so = record {
      size = so.size ∙ long;
      finds = λ k within has. finds k within (one_of number k numbers has);
      keeps = λ k within is. so.keeps k (reach k within) (one_mark words number k within (cases_eq k number) is);
      only = λ k within is. only k (so.only k (reach k within) is);
    }
      where
        finds : (k : ℕ) → k < 64 * length words → (number ≡ k) ⊎ Contains numbers k → IsMarked (marked (marked_one words number) numbers) k
        finds k within (inl same) = so.keeps k (reach k within) (subst (IsMarked (marked_one words number)) same (own_bit words number (omega (arith, within, same))))
        finds k within (inr has) = so.finds k (reach k within) has

        whose : (k : ℕ) → IsMarked words k ⊎ (number ≡ k) → IsMarked words k ⊎ Contains (number ∷ numbers) k
        whose k (inl is) = inl is
        whose k (inr same) = inr (subst (Contains (number ∷ numbers)) same (here number numbers))

        only : (k : ℕ) → IsMarked (marked_one words number) k ⊎ Contains numbers k → IsMarked words k ⊎ Contains (number ∷ numbers) k
        only k (inl is) = whose k (one_only words number k (cases_eq k number) is)
        only k (inr has) = inr (later number k numbers has)

empty_length : (count : ℕ) → length (empty_row count) ≡ count
empty_length count = length-replicate {A = ℕ} count 0

none_marked : (count k : ℕ) → IsMarked (empty_row count) k → ⊥
none_marked count k is = split (cases_lt (k / 64) count)
  where
    zero_word : get_or (empty_row count) (k / 64) 0 ≡ 0 → ⊥
    zero_word e = omega (arith, is, ap (λ (w : ℕ). bit_at w (k % 64)) e, bit_at-zero (k % 64))

    split : (k / 64 < count) ⊎ (count ≤ k / 64) → ⊥
    split (inl low) = zero_word (get_or-replicate count (k / 64) 0 0 low)
    split (inr high) = zero_word (get_or_past (empty_row count) (k / 64) 0 (omega (arith, high, empty_length count)))

beginnings_few : (digits value : ℕ) → length (beginnings digits value) ≤ digits
beginnings_few zero value = omega (arith, ap length (beginnings_none value))
beginnings_few (suc digits) value = split (cases_lt value 10) (beginnings_few digits (value / 10))
  where
    split : (value < 10) ⊎ (10 ≤ value) → length (beginnings digits (value / 10)) ≤ digits → length (beginnings (suc digits) value) ≤ suc digits
    split (inl low) again = omega (arith, ap length (beginnings_last digits value low))
    split (inr high) again = omega (arith, again, ap length (beginnings_next digits value high))

pub all_begun_few : (values : List ℕ) → length (all_begun values) ≤ 20 * length values
all_begun_few [] = omega arith
all_begun_few (value ∷ values) = omega (arith, ap length (flat_map-cons (beginnings 20) value values), length-append (beginnings 20 value) (all_begun values), beginnings_few 20 value, all_begun_few values)

-- the least number that isn't marked in a row of more bits than there are numbers is the least outside them
pub least_is_outside : (count : ℕ) (values words : List ℕ) (least : ℕ) → words ≡ marked (empty_row count) (all_begun values) → 20 * length values < 64 * count
    → 64 * count < 2 ^ 64 → IsLeastUnmarked words least → IsLeastOutside (all_begun values) least
least_is_outside count values words least words_is room fits is = record {
  fits = omega (arith, inside, fits);
  outside = λ has. is.unmarked (omega (arith, inside, size)) (subst (λ l. IsMarked l least) (sym words_is) (so.finds least (omega (arith, inside, empty)) has));
  below = λ lower low. whose lower (so.only lower (omega (arith, low, inside, empty)) (subst (λ l. IsMarked l lower) words_is (is.below lower low)));
}
  where
    so : Marks (empty_row count) (all_begun values) (marked (empty_row count) (all_begun values))
    so = marks (empty_row count) (all_begun values)

    empty : length (empty_row count) ≡ count
    empty = empty_length count

    size : length words ≡ count
    size = ap length words_is ∙ so.size ∙ empty

    whose : (k : ℕ) → IsMarked (empty_row count) k ⊎ Contains (all_begun values) k → Contains (all_begun values) k
    whose k (inl none) = absurd (none_marked count k none)
    whose k (inr has) = has

    -- else all numbers of the row were marked, and these are too many
    full : 64 * count ≤ least → (k : ℕ) → k < 64 * count → Contains (all_begun values) k
    full all k low = whose k (so.only k (omega (arith, low, empty)) (subst (λ l. IsMarked l k) words_is (is.below k (omega (arith, low, all)))))

    inside : least < 64 * count
    inside = split (cases_lt least (64 * count))
      where
        split : (least < 64 * count) ⊎ (64 * count ≤ least) → least < 64 * count
        split (inl low) = low
        split (inr all) = absurd (omega (arith, room, all_begun_few values, all_below_are_many (64 * count) (all_begun values) (full all)))

-- the row is as long as it was made
pub row_length : (count : ℕ) (numbers words : List ℕ) → words ≡ marked (empty_row count) numbers → length words ≡ count
row_length count numbers words is = ap length is ∙ (marks (empty_row count) numbers).size ∙ empty_length count

-- the numbers of one list after those of another
pub marked_append : (words one two : List ℕ) → marked words (one ++ two) ≡ marked (marked words one) two
marked_append words [] two = refl
marked_append words (x ∷ one) two = marked_append (marked_one words x) one two

-- a place of a row by its word
by_word : (words : List ℕ) (index place number : ℕ) → number ≡ 64 * index + place → place < 64 → bit_at (get_or words index 0) place ≡ 1 → IsMarked words number
by_word words index place number is low set_there =
    let word : number / 64 ≡ index = omega arith in
    let bit : number % 64 ≡ place = omega arith in
    ap (λ p. bit_at (get_or words p 0) (number % 64)) word ∙ ap (λ b. bit_at (get_or words index 0) b) bit ∙ set_there

-- after a word of ones
pub full_word : (words : List ℕ) (index least : ℕ) → least ≡ 64 * index → ((lower : ℕ) → lower < least → IsMarked words lower)
    → get_or words index 0 ≡ 18446744073709551615 → (lower : ℕ) → lower < least + 64 → IsMarked words lower
full_word words index least is below ones lower low = split (cases_lt lower least)
  where
    split : (lower < least) ⊎ (least ≤ lower) → IsMarked words lower
    split (inl before) = below lower before
    split (inr from_here) =
        by_word words index (lower - least) lower (omega (arith, is, from_here)) (omega (arith, low, from_here))
        (ap (λ w. bit_at w (lower - least)) ones ∙ bit_at_ones 64 (lower - least) (omega (arith, low, from_here)))

-- in a word that isn't all ones
pub in_word : (words : List ℕ) (index least ones : ℕ) → index < length words → get_or words index 0 < 18446744073709551616 → (get_or words index 0 ≡ 18446744073709551615 → ⊥)
    → least ≡ 64 * index → ((lower : ℕ) → lower < least → IsMarked words lower) → ones ≡ trailing_ones w64 (get_or words index 0) → IsLeastUnmarked words (least + ones)
in_word words index least ones inside fits not_full is below ones_is = record {
  within = omega (arith, inside, is, few);
  below = λ lower low. split lower low (cases_lt lower least);
  unmarked = λ in_row marked_there. omega (arith, clear marked_there);
}
  where
    bits : (trailing_ones w64 (get_or words index 0) < 64) × (bit_at (get_or words index 0) (trailing_ones w64 (get_or words index 0)) ≡ 0)
        × ((i : ℕ) → i < trailing_ones w64 (get_or words index 0) → bit_at (get_or words index 0) i ≡ 1)
    bits = bit_at-trailing_ones w64 (get_or words index 0) (omega (arith, fits, not_full))

    few : ones < 64
    few = omega (arith, bits.0, ones_is)

    split : (lower : ℕ) → lower < least + ones → (lower < least) ⊎ (least ≤ lower) → IsMarked words lower
    split lower low (inl before) = below lower before
    split lower low (inr from_here) =
        by_word words index (lower - least) lower (omega (arith, is, from_here)) (omega (arith, low, from_here, few))
        (bits.2 (lower - least) (omega (arith, low, from_here, ones_is)))

    zero_bit : bit_at (get_or words index 0) ones ≡ 0
    zero_bit = ap (bit_at (get_or words index 0)) ones_is ∙ bits.1

    clear : IsMarked words (least + ones) → ◌≡◌ {A = ℕ} 1 0
    clear marked_there =
        let word : (least + ones) / 64 ≡ index = omega (arith, is, few) in
        let bit : (least + ones) % 64 ≡ ones = omega (arith, is, few) in
        sym marked_there ∙ ap (λ p. bit_at (get_or words p 0) ((least + ones) % 64)) word ∙ ap (λ b. bit_at (get_or words index 0) b) bit ∙ zero_bit

-- one number more of a list
pub mark_one_more : (words new target numbers : List ℕ) (index : ℕ) → index < length numbers → new ≡ marked words (beginnings 20 (get_or numbers index 0))
    → marked words (all_begun (drop index numbers)) ≡ target → marked new (all_begun (drop (index + 1) numbers)) ≡ target
mark_one_more words new target numbers index low new_is so =
    ap (λ w. marked w (all_begun (drop (index + 1) numbers))) new_is
    ∙ sym (marked_append words (beginnings 20 (get_or numbers index 0)) (all_begun (drop (index + 1) numbers)))
    ∙ ap (marked words) (sym (flat_map-cons (beginnings 20) (get_or numbers index 0) (drop (index + 1) numbers)))
    ∙ ap (λ l. marked words (all_begun l)) (sym (drop_more numbers index low)) ∙ so
  where
    drop_more : (numbers : List ℕ) (index : ℕ) → index < length numbers → drop index numbers ≡ get_or numbers index 0 ∷ drop (index + 1) numbers
    drop_more numbers index low = rw (add-one, drop-cons numbers index 0) refl
