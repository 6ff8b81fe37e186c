-- Numbers of one or two digits.
use Rattle.std.proofs.Common.{◌≡◌, ◌≢◌, ℕ, ◌+◌, ◌*◌, ◌/◌, ◌%◌, ◌<◌, ◌≤◌, ◌⊎◌, inl, inr, zero, suc, List, [], ◌∷◌, ◌++◌, Option, None, Some, MatchOption, decimal, length, get_or, refl, sym, ap, ◌∙◌, arith}
use Rattle.std.proofs.lemmas.Fmt.{decimal_digit, decimal_step}

-- one digit, or two of which the first isn't 0
pub record IsOneDigit (text : List ℕ) (number : ℕ) : Type 0 where
  pub one : length text ≡ 1
  pub small : number < 10
  pub ones : get_or text 0 0 ≡ 48 + number

pub record IsTwoDigits (text : List ℕ) (number : ℕ) : Type 0 where
  pub two : length text ≡ 2
  pub some : 0 < number / 10
  pub small : number / 10 < 10
  pub tens : get_or text 0 0 ≡ 48 + number / 10
  pub ones : get_or text 1 0 ≡ 48 + number % 10

two_digits_of : (number : ℕ) → 10 ≤ number → number < 100 → decimal number ≡ (48 + number / 10) ∷ (48 + number % 10) ∷ []
two_digits_of number large small =
    decimal_step number large (omega arith)
    ∙ ap (λ front. front ++ (48 + number % 10) ∷ []) (decimal_digit (number / 10) (omega arith))

of_one_digit : (text : List ℕ) (number : ℕ) → number < 10 → text ≡ (48 + number) ∷ [] → IsOneDigit text number
of_one_digit text number small is = record { one = ap length is; small = small; ones = ap (λ t. get_or t 0 0) is }

of_two_digits : (text : List ℕ) (number : ℕ) → 10 ≤ number → number < 100 → text ≡ (48 + number / 10) ∷ (48 + number % 10) ∷ [] → IsTwoDigits text number
of_two_digits text number large small is = record {
  two = ap length is;
  some = omega arith;
  small = omega arith;
  tens = ap (λ t. get_or t 0 0) is;
  ones = ap (λ t. get_or t 1 0) is;
}

below_or_from : (m n : ℕ) → (m < n) ⊎ (n ≤ m)
below_or_from m zero = inr (omega arith)
below_or_from zero (suc n) = inl (omega arith)
below_or_from (suc m) (suc n) = elim (below_or_from m n) [
  | inl below ↦ inl (omega (arith, below))
  | inr from ↦ inr (omega (arith, from))
]

-- how a number below 100 is written
short : (text : List ℕ) (number : ℕ) → number < 100 → text ≡ decimal number → IsOneDigit text number ⊎ IsTwoDigits text number
short text number small is = by (below_or_from number 10)
  where
    by : (number < 10) ⊎ (10 ≤ number) → IsOneDigit text number ⊎ IsTwoDigits text number
    by (inl low) = inl (of_one_digit text number low (is ∙ decimal_digit number low))
    by (inr high) = inr (of_two_digits text number high small (is ∙ two_digits_of number high small))

one_octet : (text : List ℕ) → length text ≡ 1 → text ≡ get_or text 0 0 ∷ []
one_octet [] one = absurd (omega (arith, one))
one_octet (octet ∷ []) one = refl
one_octet (octet ∷ next ∷ text) one = absurd (omega (arith, one))

two_octets : (text : List ℕ) → length text ≡ 2 → text ≡ get_or text 0 0 ∷ get_or text 1 0 ∷ []
two_octets [] two = absurd (omega (arith, two))
two_octets (octet ∷ []) two = absurd (omega (arith, two))
two_octets (octet ∷ next ∷ []) two = refl
two_octets (octet ∷ next ∷ more ∷ text) two = absurd (omega (arith, two))

-- what an octet alone is read as
pub digit_alone : (text : List ℕ) (result : Option ℕ) → length text ≡ 1
    → MatchOption result ((value : ℕ) → value < 10 → get_or text 0 0 ≢ 48 + value) (λ value. (value < 10) × (get_or text 0 0 ≡ 48 + value))
    → MatchOption result ((number : ℕ) → number < 100 → text ≢ decimal number) (λ number. (number < 100) × (text ≡ decimal number))
digit_alone text None one none = λ number small is. by number (short text number small is)
  where
    by : (number : ℕ) → IsOneDigit text number ⊎ IsTwoDigits text number → ⊥
    by number (inl it) = none number it.small it.ones
    by number (inr it) = let two = it.two in absurd (omega (arith, one, two))
digit_alone text (Some value) one (small, is) =
    (omega arith, one_octet text one ∙ ap (λ o. o ∷ []) is ∙ sym (decimal_digit value small))

-- what two octets are read as
pub digits_make : (text : List ℕ) (tens ones : ℕ) → length text ≡ 2 → tens < 10 → ones < 10 → get_or text 0 0 ≢ 48 → get_or text 0 0 ≡ 48 + tens → get_or text 1 0 ≡ 48 + ones → text ≡ decimal (10 * tens + ones)
digits_make text tens ones two small low some first second =
    let above : 0 < tens = pos_unless tens (λ zero. some (first ∙ ap (λ n. 48 + n) zero)) in
    let written = two_digits_of (10 * tens + ones) (omega arith) (omega arith) in
    let front : (10 * tens + ones) / 10 ≡ tens = omega arith in
    let back : (10 * tens + ones) % 10 ≡ ones = omega arith in
    two_octets text two ∙ ap (λ o. o ∷ get_or text 1 0 ∷ []) (first ∙ ap (λ n. 48 + n) (sym front))
    ∙ ap (λ o. (48 + (10 * tens + ones) / 10) ∷ o ∷ []) (second ∙ ap (λ n. 48 + n) (sym back)) ∙ sym written
  where
    pos_unless : (n : ℕ) → (n ≡ 0 → ⊥) → 0 < n
    pos_unless n other = omega (arith, other)

-- two octets write no number where the first, or the second, is no digit
pub no_tens : (text : List ℕ) → length text ≡ 2 → ((value : ℕ) → value < 10 → get_or text 0 0 ≢ 48 + value) → (number : ℕ) → number < 100 → text ≢ decimal number
no_tens text two none number small is = by (short text number small is)
  where
    by : IsOneDigit text number ⊎ IsTwoDigits text number → ⊥
    by (inl it) = let one = it.one in absurd (omega (arith, one, two))
    by (inr it) = none (number / 10) it.small it.tens

pub no_ones : (text : List ℕ) → length text ≡ 2 → ((value : ℕ) → value < 10 → get_or text 1 0 ≢ 48 + value) → (number : ℕ) → number < 100 → text ≢ decimal number
no_ones text two none number small is = by (short text number small is)
  where
    by : IsOneDigit text number ⊎ IsTwoDigits text number → ⊥
    by (inl it) = let one = it.one in absurd (omega (arith, one, two))
    by (inr it) = none (number % 10) (omega arith) it.ones

-- nor where a 0 leads them, nor do fewer or more
pub no_leading : (text : List ℕ) → length text ≡ 2 → get_or text 0 0 ≡ 48 → (number : ℕ) → number < 100 → text ≢ decimal number
no_leading text two leads number small is = by (short text number small is)
  where
    by : IsOneDigit text number ⊎ IsTwoDigits text number → ⊥
    by (inl it) = let one = it.one in absurd (omega (arith, one, two))
    by (inr it) = let some = it.some in let tens = it.tens in absurd (omega (arith, some, tens, leads))

pub no_other_length : (text : List ℕ) → length text ≢ 1 → length text ≢ 2 → (number : ℕ) → number < 100 → text ≢ decimal number
no_other_length text no_one no_two number small is = by (short text number small is)
  where
    by : IsOneDigit text number ⊎ IsTwoDigits text number → ⊥
    by (inl it) = no_one it.one
    by (inr it) = no_two it.two
