-- The positions of an attempt's replies, by what is known of the first ones.
use Rattle.std.proofs.Common.{◌≡◌, ◌<◌, ◌≤◌, ℕ, zero, suc, ◌+◌, Bool, true, false, List, [], ◌∷◌, ◌++◌, length, map, Some, None, refl, sym, subst, arith, if◌then◌else◌}
use Rattle.std.specs.Prelude.{slice_get, slice_index_or}
use Rattle.relay_course.specs.VerdictTable.{kind_of}
use Rattle.relay_course.specs.declared.reply_kind.ReplyKind.{ReplyKind}
use Rattle.relay_course.specs.declared.reply_kind.ReplyKind.TheVariants.{Completion, Intermediate, Transient, Permanent}
use Rattle.relay_course.specs.Settling.{content_position, is_completion, is_intermediate, settling_position}

-- the same positions, after an accepted MAIL
abbrev pub content_after : Bool → List ReplyKind → ℕ → ℕ
content_after by_data kinds count =
    if by_data then (if is_intermediate (slice_get kinds count) then suc count else count) else count

abbrev pub settling_after : Bool → List ReplyKind → ℕ → ℕ → ℕ
settling_after by_data kinds count index =
    if is_completion (slice_get kinds index) then content_after by_data kinds count else index

-- a position after three replies, or four
three : (n : ℕ) → 2 + 1 + n ≡ suc (suc (suc n))
three n = omega arith

four : (n : ℕ) → 3 + 1 + n ≡ suc (suc (suc (suc n)))
four n = omega arith

content-three : (ks : List ReplyKind) (by_data : Bool) (count : ℕ)
    → content_position by_data (Completion ∷ Completion ∷ Completion ∷ ks) count
    ≡ suc (suc (suc (content_after by_data ks count)))
content-three ks by_data count =
    let kinds : List ReplyKind = Completion ∷ Completion ∷ Completion ∷ ks in
    subst (λ (p : ℕ). (if by_data then (if is_intermediate (slice_get kinds p) then p + 1 else p) else p)
    ≡ suc (suc (suc (content_after by_data ks count)))) (sym (three count))
    (by by_data (is_intermediate (slice_get ks count)))
  where
    by : (data_too test : Bool)
        → (if data_too then (if test then suc (suc (suc count)) + 1 else suc (suc (suc count))) else suc (suc (suc count)))
        ≡ suc (suc (suc (if data_too then (if test then suc count else count) else count)))
    by true true = omega arith
    by true false = refl
    by false test = refl

content-four : (ks : List ReplyKind) (by_data : Bool) (count : ℕ)
    → content_position by_data (Completion ∷ Permanent ∷ Completion ∷ Completion ∷ ks) count
    ≡ suc (suc (suc (suc (content_after by_data ks count))))
content-four ks by_data count =
    let kinds : List ReplyKind = Completion ∷ Permanent ∷ Completion ∷ Completion ∷ ks in
    subst (λ (p : ℕ). (if by_data then (if is_intermediate (slice_get kinds p) then p + 1 else p) else p)
    ≡ suc (suc (suc (suc (content_after by_data ks count))))) (sym (four count))
    (by by_data (is_intermediate (slice_get ks count)))
  where
    by : (data_too test : Bool)
        → (if data_too then (if test then suc (suc (suc (suc count))) + 1 else suc (suc (suc (suc count))))
        else suc (suc (suc (suc count))))
        ≡ suc (suc (suc (suc (if data_too then (if test then suc count else count) else count))))
    by true true = omega arith
    by true false = refl
    by false test = refl

pub at-three : (ks : List ReplyKind) (by_data : Bool) (count index : ℕ)
    → settling_position by_data (Completion ∷ Completion ∷ Completion ∷ ks) count index
    ≡ suc (suc (suc (settling_after by_data ks count index)))
at-three ks by_data count index =
    let kinds : List ReplyKind = Completion ∷ Completion ∷ Completion ∷ ks in
    subst (λ (p : ℕ). (if is_completion (slice_get kinds p) then content_position by_data kinds count else p)
    ≡ suc (suc (suc (settling_after by_data ks count index)))) (sym (three index))
    (by (is_completion (slice_get ks index)))
  where
    by : (test : Bool)
        → (if test then content_position by_data (Completion ∷ Completion ∷ Completion ∷ ks) count
        else suc (suc (suc index)))
        ≡ suc (suc (suc (if test then content_after by_data ks count else index)))
    by true = content-three ks by_data count
    by false = refl

pub at-four : (ks : List ReplyKind) (by_data : Bool) (count index : ℕ)
    → settling_position by_data (Completion ∷ Permanent ∷ Completion ∷ Completion ∷ ks) count index
    ≡ suc (suc (suc (suc (settling_after by_data ks count index))))
at-four ks by_data count index =
    let kinds : List ReplyKind = Completion ∷ Permanent ∷ Completion ∷ Completion ∷ ks in
    subst (λ (p : ℕ). (if is_completion (slice_get kinds p) then content_position by_data kinds count else p)
    ≡ suc (suc (suc (suc (settling_after by_data ks count index))))) (sym (four index))
    (by (is_completion (slice_get ks index)))
  where
    by : (test : Bool)
        → (if test then content_position by_data (Completion ∷ Permanent ∷ Completion ∷ Completion ∷ ks) count
        else suc (suc (suc (suc index))))
        ≡ suc (suc (suc (suc (if test then content_after by_data ks count else index))))
    by true = content-four ks by_data count
    by false = refl

-- the first refusal before the RCPTs
pub at-greeting : (kind : ReplyKind) (ks : List ReplyKind) (by_data : Bool) (count index : ℕ)
    → is_completion (Some kind) ≡ false → settling_position by_data (kind ∷ ks) count index ≡ 0
at-greeting Completion ks by_data count index e = absurd (cc)
at-greeting Intermediate ks by_data count index e = refl
at-greeting Transient ks by_data count index e = refl
at-greeting Permanent ks by_data count index e = refl

pub at-ehlo-3 : (ks : List ReplyKind) (by_data : Bool) (count index : ℕ)
    → settling_position by_data (Completion ∷ Intermediate ∷ ks) count index ≡ 1
at-ehlo-3 ks by_data count index = refl

pub at-ehlo-4 : (ks : List ReplyKind) (by_data : Bool) (count index : ℕ)
    → settling_position by_data (Completion ∷ Transient ∷ ks) count index ≡ 1
at-ehlo-4 ks by_data count index = refl

pub at-helo : (kind : ReplyKind) (ks : List ReplyKind) (by_data : Bool) (count index : ℕ)
    → is_completion (Some kind) ≡ false → settling_position by_data (Completion ∷ Permanent ∷ kind ∷ ks) count index ≡ 2
at-helo Completion ks by_data count index e = absurd (cc)
at-helo Intermediate ks by_data count index e = refl
at-helo Transient ks by_data count index e = refl
at-helo Permanent ks by_data count index e = refl

pub at-mail-three : (kind : ReplyKind) (ks : List ReplyKind) (by_data : Bool) (count index : ℕ)
    → is_completion (Some kind) ≡ false
    → settling_position by_data (Completion ∷ Completion ∷ kind ∷ ks) count index ≡ 2
at-mail-three Completion ks by_data count index e = absurd (cc)
at-mail-three Intermediate ks by_data count index e = refl
at-mail-three Transient ks by_data count index e = refl
at-mail-three Permanent ks by_data count index e = refl

pub at-mail-four : (kind : ReplyKind) (ks : List ReplyKind) (by_data : Bool) (count index : ℕ)
    → is_completion (Some kind) ≡ false
    → settling_position by_data (Completion ∷ Permanent ∷ Completion ∷ kind ∷ ks) count index ≡ 3
at-mail-four Completion ks by_data count index e = absurd (cc)
at-mail-four Intermediate ks by_data count index e = refl
at-mail-four Transient ks by_data count index e = refl
at-mail-four Permanent ks by_data count index e = refl

-- an element of a list's front, and those after it
pub get_front : {A : Type 0} (xs ys : List A) (n : ℕ) (x : A) → slice_get xs n ≡ Some x → slice_get (xs ++ ys) n ≡ Some x
get_front [] ys n x e = absurd (cc)
get_front (y ∷ xs) ys zero x e = e
get_front (y ∷ xs) ys (suc n) x e = get_front xs ys n x e

pub get_first : {A : Type 0} (xs ys : List A) → slice_get (xs ++ ys) (length xs) ≡ slice_get ys 0
get_first [] ys = refl
get_first (x ∷ xs) ys = get_first xs ys

pub get_second : {A : Type 0} (xs ys : List A) → slice_get (xs ++ ys) (suc (length xs)) ≡ slice_get ys 1
get_second [] ys = refl
get_second (x ∷ xs) ys = get_second xs ys

-- the kind of a reply that is there, and of none
pub kind_within : (codes : List ℕ) (i code : ℕ) → i < length codes
    → Some (kind_of (slice_index_or codes i code)) ≡ slice_get (map kind_of codes) i
kind_within [] i code lt = absurd (omega (arith, lt))
kind_within (first ∷ codes) zero code lt = refl
kind_within (first ∷ codes) (suc i) code lt = kind_within codes i code (omega (arith, lt))

pub kind_past : (codes : List ℕ) (i : ℕ) → length codes ≤ i → None ≡ slice_get (map kind_of codes) i
kind_past [] i le = refl
kind_past (first ∷ codes) zero le = absurd (omega (arith, le))
kind_past (first ∷ codes) (suc i) le = kind_past codes i (omega (arith, le))
