-- Numbers after a stem: which the code's list has.
use Rattle.std.proofs.Common.{◌≡◌, ◌⊎◌, inl, inr, ℕ, zero, suc, ◌+◌, ◌*◌, ◌-◌, ◌/◌, ◌%◌, ◌<◌, ◌≤◌, ◌^◌, Bool, true, false, ◌==◌, List, [], ◌∷◌, ◌++◌, length, get_or, Contains, decimal, refl, sym, ap, subst, ◌∙◌, arith, append_assoc, append-nil, if◌then◌else◌}
use Rattle.std.proofs.lemmas.Bool.{eq-eqb, and_parts, eqb-true, false≢true, leb-true, le-leb}
use Rattle.std.proofs.lemmas.Fmt.{decimal_step, decimal_digit, decimal_is_IsNumeral, decimal_nonempty, first_decimal}
use Rattle.std.proofs.lemmas.Str.{digit_value_digit}
use Rattle.std.proofs.lemmas.Str.Parse.{digit_from_value}
use Rattle.std.specs.Str.Parse.{AllDigits, digits_value_after}
use Rattle.std.specs.Char.{digit_value}
use Rattle.std.specs.Bool.{⊤}
use Rattle.relay_report.specs.Numbers.{one_more, may_grow}

-- the numbers that the digits at the beginning of the octets make of this one
abbrev pub growing : ℕ → List ℕ → List ℕ
growing value [] = []
growing value (octet ∷ octets) = if may_grow value octet then one_more value octet ∷ growing (one_more value octet) octets else []

-- the numbers whose text begins the octets
abbrev pub begun : List ℕ → List ℕ
begun [] = []
begun (octet ∷ octets) = if octet == 48 then 0 ∷ [] else growing 0 (octet ∷ octets)

abbrev pub Digits : List ℕ → Type 0
Digits [] = ⊤
Digits (c ∷ cs) = (48 ≤ c) × (c ≤ 57) × Digits cs

abbrev pub after : ℕ → List ℕ → ℕ
after n [] = n
after n (c ∷ cs) = after (one_more n c) cs

after_is : (n : ℕ) (ds : List ℕ) → AllDigits 10 ds → digits_value_after 10 n ds ≡ after n ds
after_is n [] d = refl
after_is n (c ∷ cs) d =
    let k = digit_from_value c d.0 in
    let e : n * 10 + digit_value c ≡ n * 10 + (c - 48) = omega (arith, digit_value_digit c k) in
    ap (λ m. digits_value_after 10 m cs) e ∙ after_is (one_more n c) cs d.1

all_digits : (ds : List ℕ) → AllDigits 10 ds → Digits ds
all_digits [] d = tt
all_digits (c ∷ cs) d = let k = digit_from_value c d.0 in (k.0, omega (arith, k.1), all_digits cs d.1)

after_le : (n : ℕ) (ds : List ℕ) → n ≤ after n ds
after_le n [] = omega arith
after_le n (c ∷ cs) = omega (arith, after_le (one_more n c) cs)

may_grow_true : (n c : ℕ) → 48 ≤ c → c ≤ 57 → one_more n c < 2 ^ 64 → may_grow n c ≡ true
may_grow_true n c low high fits = rw (le-leb 48 c low, le-leb c 57 high, le-leb (one_more n c + 1) (2 ^ 64) (omega arith)) refl

pub may_grow_says : (n c : ℕ) → may_grow n c ≡ true → (48 ≤ c) × (c ≤ 57) × (one_more n c < 2 ^ 64)
may_grow_says n c e =
    let parts = and_parts _ _ e in
    let digit = and_parts _ _ parts.0 in
    let fits = leb-true (one_more n c + 1) (2 ^ 64) parts.1 in
    (leb-true 48 c digit.0, leb-true c 57 digit.1, omega (arith, fits))

decimal_more : (n c : ℕ) → 0 < n → 48 ≤ c → c ≤ 57 → one_more n c < 2 ^ 64 → decimal (one_more n c) ≡ decimal n ++ (c ∷ [])
decimal_more n c some low high fits =
    let q : one_more n c / 10 ≡ n = omega arith in
    let r : 48 + one_more n c % 10 ≡ c = omega arith in
    decimal_step (one_more n c) (omega arith) fits ∙ ap (λ a. decimal a ++ ((48 + one_more n c % 10) ∷ [])) q ∙ ap (λ b. decimal n ++ (b ∷ [])) r

decimal_after : (n : ℕ) (ds : List ℕ) → 0 < n → Digits ds → after n ds < 2 ^ 64 → decimal (after n ds) ≡ decimal n ++ ds
decimal_after n [] some d fits = sym (append-nil (decimal n))
decimal_after n (c ∷ cs) some d fits =
    let small = after_le (one_more n c) cs in
    decimal_after (one_more n c) cs (omega arith) d.2 fits ∙ ap (λ l. l ++ cs) (decimal_more n c some d.0 d.1 (omega (arith, small))) ∙ append_assoc (decimal n) (c ∷ []) cs

pub here : (x : ℕ) (xs : List ℕ) → Contains (x ∷ xs) x
here x xs = (0, omega arith, refl)

pub later : (x y : ℕ) (xs : List ℕ) → Contains xs y → Contains (x ∷ xs) y
later x y xs c = (suc c.0, omega (arith, c.1), c.2)

pub one_of : (x y : ℕ) (xs : List ℕ) → Contains (x ∷ xs) y → (x ≡ y) ⊎ Contains xs y
one_of x y xs (zero, l, e) = inl e
one_of x y xs (suc k, l, e) = inr (k, omega arith, e)

pub none_in : (y : ℕ) → Contains [] y → ⊥
none_in y c = omega (arith, c.1)

le_zero : (k : ℕ) → (0 < k → ⊥) → k ≡ 0
le_zero zero f = refl
le_zero (suc k) f = absurd (f (omega arith))

eqb_refl : (a b : ℕ) → a ≡ b → (a == b) ≡ true
eqb_refl a b e = eq-eqb a b e

pub growing_more : (n c : ℕ) (cs : List ℕ) → may_grow n c ≡ true → growing n (c ∷ cs) ≡ one_more n c ∷ growing (one_more n c) cs
growing_more n c cs e = rw e refl

pub growing_stops : (n c : ℕ) (cs : List ℕ) → may_grow n c ≡ false → growing n (c ∷ cs) ≡ []
growing_stops n c cs e = rw e refl

pub growing_finds : (n : ℕ) (ds rest : List ℕ) → Digits ds → 0 < length ds → after n ds < 2 ^ 64 → Contains (growing n (ds ++ rest)) (after n ds)
growing_finds n [] rest d some fits = absurd (omega arith)
growing_finds n (c ∷ []) rest d some fits =
    let may = may_grow_true n c d.0 d.1 fits in
    subst (λ l. Contains l (one_more n c)) (sym (growing_more n c rest may)) (here (one_more n c) (growing (one_more n c) rest))
growing_finds n (c ∷ (b ∷ bs)) rest d some fits =
    let small = after_le (one_more n c) (b ∷ bs) in
    let may = may_grow_true n c d.0 d.1 (omega (arith, small)) in
    subst (λ l. Contains l (after n (c ∷ (b ∷ bs)))) (sym (growing_more n c ((b ∷ bs) ++ rest) may)) (later (one_more n c) (after (one_more n c) (b ∷ bs)) (growing (one_more n c) ((b ∷ bs) ++ rest)) (growing_finds (one_more n c) (b ∷ bs) rest d.2 (omega arith) fits))

abbrev pub Grows : ℕ → List ℕ → ℕ → Type 0
Grows n os k = (ds : List ℕ) × (rest : List ℕ) × (os ≡ ds ++ rest) × (0 < length ds) × Digits ds × (k ≡ after n ds) × (k < 2 ^ 64)

grows_by : (n c k : ℕ) (cs : List ℕ) → (48 ≤ c) × (c ≤ 57) × (one_more n c < 2 ^ 64) → (one_more n c ≡ k) ⊎ Grows (one_more n c) cs k → Grows n (c ∷ cs) k
grows_by n c k cs is (inl e) = (c ∷ [], cs, refl, omega arith, (is.0, is.1, tt), sym e, omega (arith, e, is.2))
grows_by n c k cs is (inr (ds, rest, os_is, some, digits, k_is, fits)) = (c ∷ ds, rest, ap (λ l. c ∷ l) os_is, omega arith, (is.0, is.1, digits), k_is, fits)

pub growing_only : (n k : ℕ) (os : List ℕ) → Contains (growing n os) k → Grows n os k
growing_only n k [] has = absurd (none_in k has)
growing_only n k (c ∷ cs) has = by (may_grow n c) refl (growing_only (one_more n c) k cs)
  where
    step : (Contains (growing (one_more n c) cs) k → Grows (one_more n c) cs k) → (one_more n c ≡ k) ⊎ Contains (growing (one_more n c) cs) k → (one_more n c ≡ k) ⊎ Grows (one_more n c) cs k
    step again (inl e) = inl e
    step again (inr more) = inr (again more)

    by : (b : Bool) → may_grow n c ≡ b → (Contains (growing (one_more n c) cs) k → Grows (one_more n c) cs k) → Grows n (c ∷ cs) k
    by true e again = grows_by n c k cs (may_grow_says n c e) (step again (one_of (one_more n c) k _ (subst (λ l. Contains l k) (growing_more n c cs e) has)))
    by false e again = absurd (none_in k (subst (λ l. Contains l k) (growing_stops n c cs e) has))

-- a number below 2^64 is what its digits say
decimal_says : (k : ℕ) → k < 2 ^ 64 → (after 0 (decimal k) ≡ k) × Digits (decimal k)
decimal_says k fits =
    let numeral = decimal_is_IsNumeral k fits in
    (sym (after_is 0 (decimal k) numeral.0.1) ∙ numeral.1, all_digits (decimal k) numeral.0.1)

pub begun_zero : (c : ℕ) (cs : List ℕ) → c ≡ 48 → begun (c ∷ cs) ≡ 0 ∷ []
begun_zero c cs e = rw e refl

pub begun_other : (c : ℕ) (cs : List ℕ) → (c == 48) ≡ false → begun (c ∷ cs) ≡ growing 0 (c ∷ cs)
begun_other c cs e = rw e refl

-- a number whose text begins the octets is found
pub begun_finds : (k : ℕ) (rest : List ℕ) → k < 2 ^ 64 → Contains (begun (decimal k ++ rest)) k
begun_finds k rest fits = by (decimal k) refl
  where
    by : (ds : List ℕ) → decimal k ≡ ds → Contains (begun (decimal k ++ rest)) k
    by [] e = absurd (omega (arith, decimal_nonempty k fits, ap length e))
    by (c ∷ cs) e = split (c == 48) refl
      where
        split : (b : Bool) → (c == 48) ≡ b → Contains (begun (decimal k ++ rest)) k
        split true is =
            let first : get_or (decimal k) 0 0 ≡ c = ap (λ l. get_or l 0 0) e in
            let zero_is : c ≡ 48 = eqb-true c 48 is in
            let k_is : k ≡ 0 = le_zero k (λ some. omega (arith, first, zero_is, first_decimal k some fits)) in
            subst (λ n. Contains (begun (decimal k ++ rest)) n) (sym k_is) (subst (λ l. Contains (begun (l ++ rest)) 0) (sym e) (subst (λ l. Contains l 0) (sym (begun_zero c (cs ++ rest) zero_is)) (here 0 [])))
        split false is =
            let says = decimal_says k fits in
            let has : Contains (growing 0 (decimal k ++ rest)) k = subst (λ n. Contains (growing 0 (decimal k ++ rest)) n) says.0 (growing_finds 0 (decimal k) rest says.1 (decimal_nonempty k fits) (omega (arith, says.0))) in
            subst (λ l. Contains (begun (l ++ rest)) k) (sym e) (subst (λ l. Contains l k) (sym (begun_other c (cs ++ rest) is)) (subst (λ l. Contains (growing 0 (l ++ rest)) k) e has))

-- what is found is a number whose text begins the octets
pub begun_only : (k : ℕ) (os : List ℕ) → Contains (begun os) k → (rest : List ℕ) × (os ≡ decimal k ++ rest) × (k < 2 ^ 64)
begun_only k [] has = absurd (none_in k has)
begun_only k (c ∷ cs) has = split (c == 48) refl
  where
    zero_case : c ≡ 48 → (0 ≡ k) ⊎ Contains [] k → (rest : List ℕ) × (c ∷ cs ≡ decimal k ++ rest) × (k < 2 ^ 64)
    zero_case is (inl e) = (cs, ap (λ n. n ∷ cs) is ∙ ap (λ l. l ++ cs) (sym (decimal_digit 0 (omega arith))) ∙ ap (λ n. decimal n ++ cs) e, omega (arith, e))
    zero_case is (inr h) = absurd (none_in k h)

    other : (c == 48) ≡ false → (ds rest : List ℕ) → c ∷ cs ≡ ds ++ rest → 0 < length ds → Digits ds → k ≡ after 0 ds → k < 2 ^ 64 → (rest : List ℕ) × (c ∷ cs ≡ decimal k ++ rest) × (k < 2 ^ 64)
    other is [] rest e some d k_is fits = absurd (omega arith)
    other is (b ∷ bs) rest e some d k_is fits =
        let same : c ≡ b = ap (λ l. get_or l 0 0) e in
        let not_zero : (b ≡ 48) → ⊥ = λ z. false≢true (sym is ∙ eqb_refl c 48 (same ∙ z)) in
        let low = d.0 in
        let high = d.1 in
        let positive : 0 < one_more 0 b = omega (arith, not_zero, low) in
        let fit : after (one_more 0 b) bs < 2 ^ 64 = omega (arith, k_is, fits) in
        let first : decimal (one_more 0 b) ≡ b ∷ [] = decimal_digit (one_more 0 b) (omega (arith, low, high)) ∙ ap (λ n. n ∷ []) (omega (arith, low)) in
        let whole : decimal k ≡ b ∷ bs = ap decimal k_is ∙ decimal_after (one_more 0 b) bs positive d.2 fit ∙ ap (λ l. l ++ bs) first in
        (rest, e ∙ ap (λ l. l ++ rest) (sym whole), fits)

    split : (b : Bool) → (c == 48) ≡ b → (rest : List ℕ) × (c ∷ cs ≡ decimal k ++ rest) × (k < 2 ^ 64)
    split true is = zero_case (eqb-true c 48 is) (one_of 0 k [] (subst (λ l. Contains l k) (begun_zero c cs (eqb-true c 48 is)) has))
    split false is =
        let (ds, rest, e, some, d, k_is, fits) = growing_only 0 k (c ∷ cs) (subst (λ l. Contains l k) (begun_other c cs is) has) in
        other is ds rest e some d k_is fits
