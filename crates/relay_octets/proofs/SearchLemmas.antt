-- A search for CR LF that goes from LF to LF.
use Rattle.std.proofs.Common.{◌≡◌, ◌≢◌, ℕ, zero, suc, ◌+◌, ◌-◌, ◌<◌, ◌≤◌, inl, inr, ◌==◌, List, length, take, drop, get_or, get_or-drop, length-drop, sym, ap, ◌∙◌, add-zero, arith}
use Rattle.std.proofs.lemmas.Bool.{cases_lt, eqb-true}
use Rattle.memchr.specs.Find.{OccursAt, Nowhere, NoneBefore, Passes, is_byte}
use Rattle.relay_octets.specs.Line.{crlf, HasNoCrlf, ReadsLine}
use Rattle.relay_octets.proofs.LineLemmas.{none_found, first_found}

-- the place lies within the octets, and no CR LF ends before it
pub record EndsNoneBefore (octets : List ℕ) (place : ℕ) : Type 0 where
  pub within : place ≤ length octets
  pub none : (k : ℕ) → k + 1 < place → ¬ OccursAt octets crlf k

-- an LF stands at this place of the octets after `from`
abbrev pub IsLineFeed : List ℕ → ℕ → ℕ → Type 0
IsLineFeed octets from k = Passes (is_byte 10) (drop from octets) k

-- the octets of a CR LF
cr_of : (octets : List ℕ) (k : ℕ) → OccursAt octets crlf k → get_or octets k 0 ≡ 13
cr_of octets k here = ap (λ i. get_or octets i 0) (sym (add-zero k)) ∙ here.reads 0 (omega arith)

lf_of : (octets : List ℕ) (k : ℕ) → OccursAt octets crlf k → get_or octets (k + 1) 0 ≡ 10
lf_of octets k here = here.reads 1 (omega arith)

-- the LF of a CR LF that ends after `from` is among those that the search after it sees
seen_after : (octets : List ℕ) (from k : ℕ) → from ≤ k + 1 → OccursAt octets crlf k
    → IsLineFeed octets from (k + 1 - from)
seen_after octets from k after here =
    let same : from + (k + 1 - from) ≡ k + 1 = omega arith in
    ap (λ o. o == 10)
    (get_or-drop from octets (k + 1 - from) 0 ∙ ap (λ i. get_or octets i 0) same ∙ lf_of octets k here)

-- where no LF follows, there is no CR LF
pub none_after : (octets : List ℕ) (from : ℕ) → EndsNoneBefore octets from
    → Nowhere (IsLineFeed octets from) 0 (length (drop from octets)) → HasNoCrlf octets
none_after octets from so_far nowhere =
    none_found octets
    (λ k low high here.
    elim (cases_lt (k + 1) from) [
      | inl before ↦ so_far.none k before here
      | inr after ↦
          let rest = length-drop from octets in
          let fits = here.fits in
          nowhere (k + 1 - from) (omega arith) (omega arith) (seen_after octets from k after here)
    ])

-- after an LF with no CR before it, the search goes on
pub goes_on : (octets : List ℕ) (from place : ℕ) → EndsNoneBefore octets from
    → NoneBefore (IsLineFeed octets from) 0 (length (drop from octets)) place
    → (0 < from + place → get_or octets (from + place - 1) 0 ≢ 13)
    → EndsNoneBefore octets (from + place + 1)
goes_on octets from place so_far first no_cr =
    let rest = length-drop from octets in
    let high = first.high in
    let within = so_far.within in
    record {
      within = omega arith;
      none = λ k low here. elim (cases_lt (k + 1) from) [
        | inl before ↦ so_far.none k before here
        | inr after ↦ elim (cases_lt (k + 1) (from + place)) [
          | inl apart ↦ first.before (k + 1 - from) (omega arith) (omega arith) (seen_after octets from k after here)
          | inr at ↦
              let same : from + place - 1 ≡ k = omega arith in
              no_cr (omega arith) (ap (λ i. get_or octets i 0) same ∙ cr_of octets k here)
        ]
      ];
    }

-- the octets of a CR LF, by their number
reads_crlf : (octets : List ℕ) (k : ℕ) → get_or octets k 0 ≡ 13 → get_or octets (k + 1) 0 ≡ 10
    → (j : ℕ) → j < 2 → get_or octets (k + j) 0 ≡ get_or crlf j 0
reads_crlf octets k cr lf zero low = ap (λ i. get_or octets i 0) (add-zero k) ∙ cr
reads_crlf octets k cr lf (suc zero) low = lf
reads_crlf octets k cr lf (suc (suc j)) low = absurd (omega arith)

-- an LF after a CR ends the first line
pub found_after : (octets : List ℕ) (from place line_feed : ℕ) → line_feed ≡ from + place
    → EndsNoneBefore octets from
    → NoneBefore (IsLineFeed octets from) 0 (length (drop from octets)) place
    → IsLineFeed octets from place → 0 < line_feed → get_or octets (line_feed - 1) 0 ≡ 13
    → ReadsLine octets (take (line_feed - 1) octets) (drop (line_feed - 1 + 2) octets)
found_after octets from place line_feed is so_far first seen some cr =
    let rest = length-drop from octets in
    let high = first.high in
    let lf : get_or octets (line_feed - 1 + 1) 0 ≡ 10 =
    ap (λ i. get_or octets i 0) (omega (arith, is, some)) ∙ sym (get_or-drop from octets place 0) ∙ eqb-true _ 10 seen in
    let here : OccursAt octets crlf (line_feed - 1) =
    record { fits = omega arith; reads = reads_crlf octets (line_feed - 1) cr lf } in
    first_found octets (line_feed - 1)
    (record {
      low = omega arith;
      high = omega arith;
      before = λ k low high there. elim (cases_lt (k + 1) from) [
        | inl before ↦ so_far.none k before there
        | inr after ↦ first.before (k + 1 - from) (omega arith) (omega arith) (seen_after octets from k after there)
      ];
    })
    here
