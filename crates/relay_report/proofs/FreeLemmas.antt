-- That there is a free boundary: a text excludes at most 20 numbers for each of its octets.
use Rattle.std.proofs.Common.{◌≡◌, ◌⊎◌, inl, inr, ℕ, zero, suc, ◌+◌, ◌*◌, ◌-◌, ◌<◌, ◌≤◌, ◌^◌, Bool, true, false, List, [], ◌∷◌, ◌++◌, length, take, drop, Contains, decimal, ◌==◌, refl, sym, ap, subst, ◌∙◌, arith, append_assoc, if◌then◌else◌}
use Rattle.std.specs.Str.{bytes_eq}
use Rattle.std.proofs.lemmas.Slice.Eq.{bytes_eq-Decides}
use Rattle.std.proofs.lemmas.Bool.{cases_eq, cases_lt, eqb-true, eq-eqb, false≢true}
use Rattle.std.proofs.lemmas.List.{take_at, drop_at, take-append-drop, length-append}
use Rattle.std.proofs.lemmas.List.Elements.{Contains-append_left, Contains-append_right, Contains-append_cases}
use Rattle.std.proofs.lemmas.Fmt.{decimal_nonempty}
use Rattle.relay_report.specs.Boundary.{StandsIn, numbered, IsTaken, IsLeastFree, boundary_text, stem_of, BoundaryIsThere, BoundaryIsOne}
use Rattle.relay_report.specs.Numbers.{one_more, may_grow}
use Rattle.relay_report.proofs.NumberLemmas.{growing, growing_more, growing_stops, begun, begun_zero, begun_other, begun_finds, begun_only, may_grow_says, none_in, one_of, here, later}
use Rattle.relay_report.proofs.RowLemmas.{all_below_are_many}

-- the text begins with the stem
abbrev begins : List ℕ → List ℕ → Bool
begins stem text = bytes_eq (take (length stem) text) stem

-- the numbers that stand after the stem at the beginning of the text
abbrev excluded_here : List ℕ → List ℕ → List ℕ
excluded_here stem text = if begins stem text then begun (drop (length stem) text) else []

-- the numbers that stand after the stem somewhere in the text
abbrev excluded : List ℕ → List ℕ → List ℕ
excluded stem [] = []
excluded stem (octet ∷ octets) = excluded_here stem (octet ∷ octets) ++ excluded stem octets

here_yes : (stem text : List ℕ) → begins stem text ≡ true → excluded_here stem text ≡ begun (drop (length stem) text)
here_yes stem text e = rw e refl

here_no : (stem text : List ℕ) → begins stem text ≡ false → excluded_here stem text ≡ []
here_no stem text e = rw e refl

begins_true : (stem text : List ℕ) → take (length stem) text ≡ stem → begins stem text ≡ true
begins_true stem text e = (bytes_eq-Decides (take (length stem) text) stem).1 e

begins_says : (stem text : List ℕ) → begins stem text ≡ true → take (length stem) text ≡ stem
begins_says stem text e = (bytes_eq-Decides (take (length stem) text) stem).0 e

-- a number after the stem at the beginning
here_finds : (stem text after : List ℕ) (k : ℕ) → k < 2 ^ 64 → text ≡ stem ++ (decimal k ++ after) → Contains (excluded_here stem text) k
here_finds stem text after k fits e =
    let yes_begins = begins_true stem text (ap (take (length stem)) e ∙ take_at stem (decimal k ++ after) (length stem) refl) in
    let afterwards : drop (length stem) text ≡ decimal k ++ after = ap (drop (length stem)) e ∙ drop_at stem (decimal k ++ after) (length stem) refl in
    subst (λ l. Contains l k) (sym (here_yes stem text yes_begins ∙ ap begun afterwards)) (begun_finds k after fits)

pub excluded_finds : (stem text before after : List ℕ) (k : ℕ) → k < 2 ^ 64 → text ≡ before ++ (stem ++ (decimal k ++ after)) → Contains (excluded stem text) k
excluded_finds stem [] before after k fits e =
    absurd (omega (arith, ap length e, length-append before (stem ++ (decimal k ++ after)), length-append stem (decimal k ++ after), length-append (decimal k) after, decimal_nonempty k fits))
excluded_finds stem (octet ∷ octets) [] after k fits e =
    Contains-append_left (excluded_here stem (octet ∷ octets)) (excluded stem octets) k (here_finds stem (octet ∷ octets) after k fits e)
excluded_finds stem (octet ∷ octets) (b ∷ before) after k fits e =
    Contains-append_right (excluded_here stem (octet ∷ octets)) (excluded stem octets) k (excluded_finds stem octets before after k fits (ap (drop 1) e))

here_only : (stem text : List ℕ) (k : ℕ) → Contains (excluded_here stem text) k → StandsIn (numbered stem k) text
here_only stem text k has = split (begins stem text) refl
  where
    stands : (rest : List ℕ) → drop (length stem) text ≡ decimal k ++ rest → take (length stem) text ≡ stem → StandsIn (numbered stem k) text
    stands rest afterwards front = record {
      before = [];
      after = rest;
      text_is = sym (take-append-drop (length stem) text) ∙ ap (λ l. l ++ drop (length stem) text) front ∙ ap (λ l. stem ++ l) afterwards ∙ sym (append_assoc stem (decimal k) rest);
    }

    split : (b : Bool) → begins stem text ≡ b → StandsIn (numbered stem k) text
    split true e =
        let (rest, afterwards, fits) = begun_only k (drop (length stem) text) (subst (λ l. Contains l k) (here_yes stem text e) has) in
        stands rest afterwards (begins_says stem text e)
    split false e = absurd (none_in k (subst (λ l. Contains l k) (here_no stem text e) has))

pub excluded_only : (stem text : List ℕ) (k : ℕ) → Contains (excluded stem text) k → StandsIn (numbered stem k) text
excluded_only stem [] k has = absurd (none_in k has)
excluded_only stem (octet ∷ octets) k has = split (Contains-append_cases (excluded_here stem (octet ∷ octets)) (excluded stem octets) k has) (excluded_only stem octets k)
  where
    more : StandsIn (numbered stem k) octets → StandsIn (numbered stem k) (octet ∷ octets)
    more is = record { before = octet ∷ is.before; after = is.after; text_is = ap (λ l. octet ∷ l) is.text_is }

    split : Contains (excluded_here stem (octet ∷ octets)) k ⊎ Contains (excluded stem octets) k → (Contains (excluded stem octets) k → StandsIn (numbered stem k) octets) → StandsIn (numbered stem k) (octet ∷ octets)
    split (inl first) again = here_only stem (octet ∷ octets) k first
    split (inr rest) again = more (again rest)

-- a number grows at most by so many digits
still_large : (digits n x : ℕ) → 2 ^ 64 ≤ 10 * n * 10 ^ suc digits → 2 ^ 64 ≤ 10 * (n * 10 + x) * 10 ^ digits
still_large digits n x large =
    let power : 10 ^ suc digits ≡ 10 * 10 ^ digits = omega arith in
    let same : 10 * n * 10 ^ suc digits ≡ 100 * (n * 10 ^ digits) = ap (λ p. 10 * n * p) power ∙ omega arith in
    let more : 10 * (n * 10 + x) * 10 ^ digits ≡ 100 * (n * 10 ^ digits) + 10 * (x * 10 ^ digits) = omega arith in
    omega (arith, large, same, more)

growing_few : (digits n : ℕ) (octets : List ℕ) → 2 ^ 64 ≤ 10 * n * 10 ^ digits → length (growing n octets) ≤ digits
growing_few digits n [] large = omega arith
growing_few zero n (c ∷ cs) large = split (may_grow n c) refl
  where
    split : (b : Bool) → may_grow n c ≡ b → length (growing n (c ∷ cs)) ≤ 0
    split true e = absurd (omega (arith, large, (may_grow_says n c e).2))
    split false e = omega (arith, ap length (growing_stops n c cs e))
growing_few (suc digits) n (c ∷ cs) large = split (may_grow n c) refl (growing_few digits (one_more n c) cs (still_large digits n (c - 48) large))
  where
    split : (b : Bool) → may_grow n c ≡ b → length (growing (one_more n c) cs) ≤ digits → length (growing n (c ∷ cs)) ≤ suc digits
    split true e again = omega (arith, ap length (growing_more n c cs e), again)
    split false e again = omega (arith, ap length (growing_stops n c cs e))

-- no number of 64 bits has more than 20 digits
begun_few : (octets : List ℕ) → length (begun octets) ≤ 20
begun_few [] = omega arith
begun_few (c ∷ cs) = split (c == 48) refl (may_grow 0 c) refl
  where
    grows : (c == 48) ≡ false → (48 ≤ c) × (c ≤ 57) × (one_more 0 c < 2 ^ 64) → length (growing (one_more 0 c) cs) ≤ 19
    grows other is = growing_few 19 (one_more 0 c) cs (large (omega (arith, is.0, differs)))
      where
        differs : c ≡ 48 → ⊥
        differs same = false≢true (sym other ∙ eq-eqb c 48 same)

        large : 1 ≤ one_more 0 c → 2 ^ 64 ≤ 10 * one_more 0 c * 10 ^ 19
        large some = omega (arith, some)

    split : (zero_first : Bool) → (c == 48) ≡ zero_first → (may : Bool) → may_grow 0 c ≡ may → length (begun (c ∷ cs)) ≤ 20
    split true is may e = omega (arith, ap length (begun_zero c cs (eqb-true c 48 is)))
    split false is true e = omega (arith, ap length (begun_other c cs is ∙ growing_more 0 c cs e), grows is (may_grow_says 0 c e))
    split false is false e = omega (arith, ap length (begun_other c cs is ∙ growing_stops 0 c cs e))

here_few : (stem text : List ℕ) → length (excluded_here stem text) ≤ 20
here_few stem text = split (begins stem text) refl
  where
    split : (b : Bool) → begins stem text ≡ b → length (excluded_here stem text) ≤ 20
    split true e = omega (arith, ap length (here_yes stem text e), begun_few (drop (length stem) text))
    split false e = omega (arith, ap length (here_no stem text e))

excluded_few : (stem text : List ℕ) → length (excluded stem text) ≤ 20 * length text
excluded_few stem [] = omega arith
excluded_few stem (octet ∷ octets) =
    omega (arith, length-append (excluded_here stem (octet ∷ octets)) (excluded stem octets), here_few stem (octet ∷ octets), excluded_few stem octets)

has_or_not : (number : ℕ) (xs : List ℕ) → Contains xs number ⊎ (Contains xs number → ⊥)
has_or_not number [] = inr (none_in number)
has_or_not number (x ∷ xs) = split (cases_eq x number) (has_or_not number xs)
  where
    neither : (x ≡ number → ⊥) → (Contains xs number → ⊥) → (x ≡ number) ⊎ Contains xs number → ⊥
    neither first rest (inl same) = first same
    neither first rest (inr has) = rest has

    split : (x ≡ number) ⊎ (x ≡ number → ⊥) → Contains xs number ⊎ (Contains xs number → ⊥) → Contains (x ∷ xs) number ⊎ (Contains (x ∷ xs) number → ⊥)
    split (inl same) rest = inl (subst (Contains (x ∷ xs)) same (here x xs))
    split (inr other) (inl has) = inl (later x number xs has)
    split (inr other) (inr none) = inr (λ has. neither other none (one_of x number xs has))

-- the least number that isn't in a list, which is at most its length
pub record IsFirstOutside (xs : List ℕ) (number : ℕ) : Type 0 where
  pub outside : Contains xs number → ⊥
  pub below : (lower : ℕ) → lower < number → Contains xs lower
  pub low : number ≤ length xs

all_up_to : (from : ℕ) (xs : List ℕ) → ((lower : ℕ) → lower < from → Contains xs lower) → Contains xs from → (lower : ℕ) → lower < from + 1 → Contains xs lower
all_up_to from xs below has lower low = split (cases_lt lower from)
  where
    split : (lower < from) ⊎ (from ≤ lower) → Contains xs lower
    split (inl before) = below lower before
    split (inr after) = let same : from ≡ lower = omega (arith, after, low) in subst (Contains xs) same has

first_outside : (left from : ℕ) (xs : List ℕ) → length xs ≡ from + left → ((lower : ℕ) → lower < from → Contains xs lower) → (number : ℕ) × IsFirstOutside xs number
first_outside zero from xs size below = split (has_or_not from xs)
  where
    split : Contains xs from ⊎ (Contains xs from → ⊥) → (number : ℕ) × IsFirstOutside xs number
    split (inr none) = (from, record { outside = none; below = below; low = omega (arith, size) })
    split (inl has) = absurd (omega (arith, size, all_below_are_many (from + 1) xs (all_up_to from xs below has)))
first_outside (suc left) from xs size below = split (has_or_not from xs) (first_outside left (from + 1) xs (omega (arith, size)))
  where
    split : Contains xs from ⊎ (Contains xs from → ⊥) → (((lower : ℕ) → lower < from + 1 → Contains xs lower) → (number : ℕ) × IsFirstOutside xs number) → (number : ℕ) × IsFirstOutside xs number
    split (inr none) again = (from, record { outside = none; below = below; low = omega (arith, size) })
    split (inl has) again = again (all_up_to from xs below has)

-- what three texts exclude
abbrev excluded_of : List ℕ → List ℕ → List ℕ → List ℕ → List ℕ
excluded_of stem one two three = excluded stem one ++ (excluded stem two ++ excluded stem three)

finds_one : (stem text : List ℕ) (k : ℕ) → k < 2 ^ 64 → StandsIn (numbered stem k) text → Contains (excluded stem text) k
finds_one stem text k fits is =
    excluded_finds stem text is.before is.after k fits (is.text_is ∙ ap (λ l. is.before ++ l) (append_assoc stem (decimal k) is.after))

finds_in : (stem one two three : List ℕ) (k : ℕ) → k < 2 ^ 64 → IsTaken stem one two three k → Contains (excluded_of stem one two three) k
finds_in stem one two three k fits (inl is) = Contains-append_left (excluded stem one) (excluded stem two ++ excluded stem three) k (finds_one stem one k fits is)
finds_in stem one two three k fits (inr (inl is)) =
    Contains-append_right (excluded stem one) (excluded stem two ++ excluded stem three) k (Contains-append_left (excluded stem two) (excluded stem three) k (finds_one stem two k fits is))
finds_in stem one two three k fits (inr (inr is)) =
    Contains-append_right (excluded stem one) (excluded stem two ++ excluded stem three) k (Contains-append_right (excluded stem two) (excluded stem three) k (finds_one stem three k fits is))

only_in : (stem one two three : List ℕ) (k : ℕ) → Contains (excluded_of stem one two three) k → IsTaken stem one two three k
only_in stem one two three k has = first (Contains-append_cases (excluded stem one) (excluded stem two ++ excluded stem three) k has)
  where
    second : Contains (excluded stem two) k ⊎ Contains (excluded stem three) k → IsTaken stem one two three k
    second (inl is) = inr (inl (excluded_only stem two k is))
    second (inr is) = inr (inr (excluded_only stem three k is))

    first : Contains (excluded stem one) k ⊎ Contains (excluded stem two ++ excluded stem three) k → IsTaken stem one two three k
    first (inl is) = inl (excluded_only stem one k is)
    first (inr is) = second (Contains-append_cases (excluded stem two) (excluded stem three) k is)

excluded_of_few : (stem one two three : List ℕ) → length (excluded_of stem one two three) ≤ 20 * (length one + length two + length three)
excluded_of_few stem one two three =
    omega (
      arith,
      length-append (excluded stem one) (excluded stem two ++ excluded stem three),
      length-append (excluded stem two) (excluded stem three),
      excluded_few stem one,
      excluded_few stem two,
      excluded_few stem three,
    )

least_free : (stem one two three : List ℕ) → 20 * (length one + length two + length three) < 2 ^ 64
    → (number : ℕ) × IsLeastFree stem one two three number × (number ≤ 20 * (length one + length two + length three))
least_free stem one two three fits =
    let (number, is) = first_outside (length (excluded_of stem one two three)) 0 (excluded_of stem one two three) (omega arith) (λ lower low. absurd (omega (arith, low))) in
    let few = excluded_of_few stem one two three in
    let low : number ≤ 20 * (length one + length two + length three) = omega (arith, few, is.low) in
    let within : number < 2 ^ 64 = omega (arith, low, fits) in (
      number,
      record {
        fits = within;
        free = λ taken. is.outside (finds_in stem one two three number within taken);
        least = λ lower below. only_in stem one two three lower (is.below lower below);
      },
      low,
    )

-- the law of this name
pub boundary_is_there : BoundaryIsThere
boundary_is_there number one two three fits =
    let (least, is, low) = least_free (stem_of number) one two three fits in
    (boundary_text number least, record { least = least; is_least = is; boundary_is = refl }, low)

-- the law of this name
pub boundary_is_one : BoundaryIsOne
boundary_is_one number one two three boundary other a b = a.boundary_is ∙ ap (boundary_text number) (same (cases_lt a.least b.least) (cases_lt b.least a.least)) ∙ sym b.boundary_is
  where
    same : (a.least < b.least) ⊎ (b.least ≤ a.least) → (b.least < a.least) ⊎ (a.least ≤ b.least) → a.least ≡ b.least
    same (inl low) other_way = absurd (a.is_least.free (b.is_least.least a.least low))
    same (inr high) (inl low) = absurd (b.is_least.free (a.is_least.least b.least low))
    same (inr high) (inr low) = omega (arith, high, low)
