-- One octet of a text: what each spelling begins with.
use Rattle.std.proofs.Common.{◌≡◌, ◌≢◌, ℕ, ◌<◌, ◌/◌, ◌%◌, ◌==◌, ◌&&◌, not, true, List, [], ◌∷◌, ◌++◌, get_or, sym, ap, ◌∙◌, arith, inl, inr}
use Rattle.std.proofs.lemmas.Bool.{and_from, false≢true, eqb-true, cond-true, cond-false, cases_Bool}
use Rattle.std.proofs.lemmas.Bool.Decides.{nat_tests}
use Rattle.relay_script.specs.Text.{digit_of, is_plain}
use Rattle.relay_script.specs.Reading.{BeginsWithNoOctet, BeginsWithOctet, has_code}

-- what a text begins with, by the kind of its first octet
pub by_kind : {R : Type 0} (text : List ℕ) (octet : ℕ) (rest : List ℕ) → BeginsWithOctet text octet rest
    → (is_plain octet ≡ true → text ≡ octet ∷ rest → R)
    → (octet ≡ 13 → text ≡ 92 ∷ 114 ∷ rest → R)
    → (octet ≡ 10 → text ≡ 92 ∷ 110 ∷ rest → R)
    → (has_code octet ≡ true → text ≡ 92 ∷ 120 ∷ digit_of (octet / 16) ∷ digit_of (octet % 16) ∷ rest → R)
    → R
by_kind {R} text octet rest begins plain cr lf code =
    elim (cases_Bool (is_plain octet)) [
      | inl yes_plain ↦
          plain yes_plain (begins.text_is ∙ ap (λ l. l ++ rest) (cond-true (is_plain octet) _ _ yes_plain))
      | inr not_plain ↦
          let is_other = begins.text_is ∙ ap (λ l. l ++ rest) (cond-false (is_plain octet) _ _ not_plain) in
          elim (cases_Bool (octet == 13)) [
            | inl is_cr ↦
                cr (eqb-true octet 13 is_cr) (is_other ∙ ap (λ l. l ++ rest) (cond-true (octet == 13) _ _ is_cr))
            | inr not_cr ↦
                let is_rest = is_other ∙ ap (λ l. l ++ rest) (cond-false (octet == 13) _ _ not_cr) in
                elim (cases_Bool (octet == 10)) [
                  | inl is_lf ↦
                      lf (eqb-true octet 10 is_lf) (is_rest ∙ ap (λ l. l ++ rest) (cond-true (octet == 10) _ _ is_lf))
                  | inr not_lf ↦
                      code
                      (and_from (not (is_plain octet) && not (octet == 13)) (not (octet == 10))
                      (and_from (not (is_plain octet)) (not (octet == 13)) (ap not not_plain) (ap not not_cr)) (ap not not_lf))
                      (is_rest ∙ ap (λ l. l ++ rest) (cond-false (octet == 10) _ _ not_lf))
                ]
          ]
    ]

-- an octet that stands as it is is no `\`
pub plain_no_backslash : (octet : ℕ) → is_plain octet ≡ true → octet ≢ 92
plain_no_backslash octet plain same = false≢true (sym (ap is_plain same) ∙ plain)

-- a digit tells its value
pub digit_tells_value : (value other : ℕ) → value < 16 → other < 16 → digit_of value ≡ digit_of other → value ≡ other
digit_tells_value value other a b same = grind (arith, nat_tests)

-- the end of a text begins with no octet
pub none_empty : BeginsWithNoOctet []
none_empty = record {
  absent = λ octet rest begins. by_kind [] octet rest begins (λ p e. cc) (λ p e. cc) (λ p e. cc) (λ p e. cc);
}

-- a text begins with one octet
pub one_octet : (text : List ℕ) (octet other : ℕ) (rest more : List ℕ) → BeginsWithOctet text octet rest
    → BeginsWithOctet text other more
    → (octet ≡ other) × (rest ≡ more)
one_octet text octet other rest more one two =
    by_kind text octet rest one
    (λ p e. by_kind text other more two
    (λ q f. (let same : octet ≡ other = cc in same, let same : rest ≡ more = cc in same))
    (λ q f. absurd (plain_no_backslash octet p (let same : octet ≡ 92 = cc in same)))
    (λ q f. absurd (plain_no_backslash octet p (let same : octet ≡ 92 = cc in same)))
    (λ q f. absurd (plain_no_backslash octet p (let same : octet ≡ 92 = cc in same))))
    (λ p e. by_kind text other more two
    (λ q f. absurd (plain_no_backslash other q (let same : other ≡ 92 = cc in same)))
    (λ q f. (let same : octet ≡ other = cc in same, let same : rest ≡ more = cc in same))
    (λ q f. absurd (let marks = ap (λ l. get_or l 1 0) (sym e ∙ f) in omega arith))
    (λ q f. absurd (let marks = ap (λ l. get_or l 1 0) (sym e ∙ f) in omega arith)))
    (λ p e. by_kind text other more two
    (λ q f. absurd (plain_no_backslash other q (let same : other ≡ 92 = cc in same)))
    (λ q f. absurd (let marks = ap (λ l. get_or l 1 0) (sym e ∙ f) in omega arith))
    (λ q f. (let same : octet ≡ other = cc in same, let same : rest ≡ more = cc in same))
    (λ q f. absurd (let marks = ap (λ l. get_or l 1 0) (sym e ∙ f) in omega arith)))
    (λ p e. by_kind text other more two
    (λ q f. absurd (plain_no_backslash other q (let same : other ≡ 92 = cc in same)))
    (λ q f. absurd (let marks = ap (λ l. get_or l 1 0) (sym e ∙ f) in omega arith))
    (λ q f. absurd (let marks = ap (λ l. get_or l 1 0) (sym e ∙ f) in omega arith))
    (λ q f.
    let high = digit_tells_value (octet / 16) (other / 16) (let small = one.within in omega arith)
    (let small = two.within in omega arith)
    (let same : digit_of (octet / 16) ≡ digit_of (other / 16) = cc in same) in
    let low = digit_tells_value (octet % 16) (other % 16) (omega arith) (omega arith)
    (let same : digit_of (octet % 16) ≡ digit_of (other % 16) = cc in same) in
    (omega (arith, high, low), let same : rest ≡ more = cc in same)))
