-- What was written so far of a row of octets.
use Rattle.std.proofs.Common.{◌≡◌, ◌≢◌, ◌<◌, ◌+◌, ℕ, List, [], ◌++◌, Option, length, take, drop, sym, ap, ◌∙◌, subst, append-nil, take-append-drop, length-drop, arith}
use Rattle.std.proofs.Math.Seq.{take-add}
use Rattle.std.proofs.KnownBytes.{Appends-trans, Appends-kept}
use Rattle.std.specs.Io.KnownBytes.{Appends, Keeps}

-- after less than all of the octets there are more
some_left : (octets : List ℕ) (written : ℕ) → written < length octets → drop written octets ≢ []
some_left octets written within none =
    let left = sym (length-drop written octets) ∙ ap length none in
    omega (arith, left, within)

-- a beginning was written, and then nothing
pub wrote_front : (a b c : Option (List ℕ)) (octets : List ℕ) (written : ℕ) → written < length octets → Appends a b (take written octets) → Keeps b c
    → (front : List ℕ) × (rest : List ℕ) × (octets ≡ front ++ rest) × (rest ≢ []) × Appends a c front
wrote_front a b c octets written within before kept =
    (take written octets, drop written octets, sym (take-append-drop written octets), some_left octets written within, Appends-kept a b c (take written octets) before kept)

pub wrote_none : (a b c : Option (List ℕ)) (octets more : List ℕ) (written count : ℕ) → written < length octets → Appends a b (take written octets) → Appends b c (take count more) → count ≡ 0
    → (front : List ℕ) × (rest : List ℕ) × (octets ≡ front ++ rest) × (rest ≢ []) × Appends a c front
wrote_none a b c octets more written count within before now none = (
  take written octets,
  drop written octets,
  sym (take-append-drop written octets),
  some_left octets written within,
  subst (Appends a c) (append-nil (take written octets)) (Appends-trans a b c (take written octets) [] before (subst (λ n. Appends b c (take n more)) none now)),
)

pub wrote_more : (a b c : Option (List ℕ)) (octets : List ℕ) (written count : ℕ) → Appends a b (take written octets) → Appends b c (take count (drop written octets)) → Appends a c (take (written + count) octets)
wrote_more a b c octets written count before now =
    subst (Appends a c) (sym (take-add written count octets)) (Appends-trans a b c (take written octets) (take count (drop written octets)) before now)
