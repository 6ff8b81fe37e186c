-- Encodings of which none begins another.
use Rattle.std.proofs.Common.{◌≡◌, ℕ, ◌+◌, ◌<◌, ◌≤◌, ◌^◌, List, [], ◌∷◌, ◌++◌, take, drop, length, refl, sym, ap, ◌∙◌, arith, append_assoc, length-append}
use Rattle.std.specs.List.{flat_map, AllByRecursion}
use Rattle.std.specs.Int.{w16, w32, w64, to_be_bytes, from_be_bytes}
use Rattle.std.proofs.lemmas.Nat.{from_be_bytes-to_be_bytes_2, from_be_bytes-to_be_bytes_4, from_be_bytes-to_be_bytes_8}
use Rattle.std.proofs.lemmas.List.{take_at, drop_at}
use Rattle.relay_book.specs.Record.{octets_2, octets_4, octets_8, sized_2}

-- the first octet, or 0
abbrev pub first_of : List ℕ → ℕ
first_of [] = 0
first_of (octet ∷ octets) = octet

-- what begins with the encodings of two valid values has one value and one rest
abbrev pub IsCode : {A : Type 0} → (A → Type 0) → (A → List ℕ) → Type 0
IsCode {A} Valid enc = (a b : A) (x y : List ℕ) → Valid a → Valid b → enc a ++ x ≡ enc b ++ y → (a ≡ b) × (x ≡ y)

-- fronts of one length
pub fronts : (n : ℕ) (a b x y : List ℕ) → length a ≡ n → length b ≡ n → a ++ x ≡ b ++ y → (a ≡ b) × (x ≡ y)
fronts n a b x y la lb e =
    (sym (take_at a x n la) ∙ ap (take n) e ∙ take_at b y n lb, sym (drop_at a x n la) ∙ ap (drop n) e ∙ drop_at b y n lb)

pub code_2 : IsCode (λ n. n < 2 ^ 16) octets_2
unfolding octets_2
code_2 a b x y ha hb e =
    let f = fronts 2 (to_be_bytes w16 a) (to_be_bytes w16 b) x y refl refl e in
    (sym (from_be_bytes-to_be_bytes_2 a ha) ∙ ap (from_be_bytes w16) f.0 ∙ from_be_bytes-to_be_bytes_2 b hb, f.1)

pub code_4 : IsCode (λ n. n < 2 ^ 32) octets_4
unfolding octets_4
code_4 a b x y ha hb e =
    let f = fronts 4 (to_be_bytes w32 a) (to_be_bytes w32 b) x y refl refl e in
    (sym (from_be_bytes-to_be_bytes_4 a ha) ∙ ap (from_be_bytes w32) f.0 ∙ from_be_bytes-to_be_bytes_4 b hb, f.1)

pub code_8 : IsCode (λ n. n < 2 ^ 64) octets_8
unfolding octets_8
code_8 a b x y ha hb e =
    let f = fronts 8 (to_be_bytes w64 a) (to_be_bytes w64 b) x y refl refl e in
    (sym (from_be_bytes-to_be_bytes_8 a ha) ∙ ap (from_be_bytes w64) f.0 ∙ from_be_bytes-to_be_bytes_8 b hb, f.1)

-- texts after their lengths
pub code_sized : (enc : ℕ → List ℕ) (limit : ℕ) → IsCode (λ n. n < limit) enc → IsCode (λ (text : List ℕ). length text < limit) (λ text. enc (length text) ++ text)
code_sized enc limit code a b x y ha hb e =
    let f = code (length a) (length b) (a ++ x) (b ++ y) ha hb (sym (append_assoc (enc (length a)) a x) ∙ e ∙ append_assoc (enc (length b)) b y) in
    fronts (length b) a b x y f.0 refl f.1

-- one after another
pub code_list : {A : Type 0} (Valid : A → Type 0) (enc : A → List ℕ) → IsCode Valid enc → (us vs : List A) (x y : List ℕ) → length us ≡ length vs → AllByRecursion Valid us → AllByRecursion Valid vs → flat_map enc us ++ x ≡ flat_map enc vs ++ y → (us ≡ vs) × (x ≡ y)
code_list Valid enc code [] [] x y n hu hv e = (refl, e)
code_list Valid enc code (u ∷ us) (v ∷ vs) x y n hu hv e =
    let f = code u v (flat_map enc us ++ x) (flat_map enc vs ++ y) hu.0 hv.0 (sym (append_assoc (enc u) (flat_map enc us) x) ∙ e ∙ append_assoc (enc v) (flat_map enc vs) y) in
    let r = code_list Valid enc code us vs x y (omega (arith, n)) hu.1 hv.1 f.1 in
    (λ i. f.0 i ∷ r.0 i, r.1)
code_list Valid enc code [] (v ∷ vs) x y n hu hv e = absurd (omega (arith, n))
code_list Valid enc code (u ∷ us) [] x y n hu hv e = absurd (omega (arith, n))

pub short_of_2 : (text : List ℕ) (n : ℕ) (rest : List ℕ) → text ≡ octets_2 n ++ rest → 2 ≤ length text
unfolding octets_2
short_of_2 text n rest e =
    let two : length (octets_2 n) ≡ 2 = refl in
    let all = ap length e in
    let parts = length-append (octets_2 n) rest in
    omega (arith, two, all, parts)

-- no text of its own length begins octets that are fewer than two
pub too_short : (text field rest : List ℕ) → length text < 2 → text ≡ sized_2 field ++ rest → ⊥
too_short text field rest short e =
    let long = short_of_2 text (length field) (field ++ rest) (e ∙ append_assoc (octets_2 (length field)) field rest) in
    omega (arith, short, long)

-- nor octets that are fewer than the length says
pub cut_short : (text : List ℕ) (n : ℕ) (after field rest : List ℕ) → text ≡ octets_2 n ++ after → n < 2 ^ 16 → length after < n → length field < 2 ^ 16 → text ≡ sized_2 field ++ rest → ⊥
cut_short text n after field rest e small less within other =
    let f = code_2 n (length field) after (field ++ rest) small within (sym e ∙ other ∙ append_assoc (octets_2 (length field)) field rest) in
    let long : length after ≡ length field + length rest = ap length f.1 ∙ length-append field rest in
    omega (arith, less, f.0, long)
