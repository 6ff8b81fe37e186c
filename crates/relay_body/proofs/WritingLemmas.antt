-- What is written of a content, line by line.
use Rattle.std.proofs.Common.{◌≡◌, ℕ, suc, ◌-◌, ◌<◌, Bool, true, false, ◌&&◌, ◌==◌, if◌then◌else◌, List, [], ◌∷◌, ◌++◌, length, drop, inl, inr, refl, sym, ap, ◌∙◌, arith, eq-eqb}
use lib.Pointwise.{pointwise}
use Rattle.std.proofs.Math.Bool.{and-false, and-true}
use Rattle.std.proofs.lemmas.Bool.{cases_Bool, eqb-true, eqb-false, ne_eqb}
use Rattle.relay_octets.specs.Line.{crlf}
use Rattle.relay_body.specs.DotText.{ends_in_line_end, with_period}

-- a period before a line doesn't touch its line end
period_before : (test : Bool) (octet : ℕ) (octets : List ℕ)
    → ◌≡◌ {A = List ℕ} (if test then 46 ∷ octet ∷ (octets ++ crlf) else octet ∷ (octets ++ crlf))
    ((if test then 46 ∷ octet ∷ octets else octet ∷ octets) ++ crlf)
period_before true octet octets = refl
period_before false octet octets = refl

pub with_period-crlf : (line : List ℕ) → with_period (line ++ crlf) ≡ with_period line ++ crlf
with_period-crlf [] = refl
with_period-crlf (octet ∷ octets) = period_before (octet == 46) octet octets

-- a test of two octets is the same in both orders
eqb-comm : (one two : ℕ) → (one == two) ≡ (two == one)
eqb-comm one two = elim (cases_Bool (one == two)) [
  | inl same ↦ same ∙ sym (eq-eqb two one (sym (eqb-true one two same)))
  | inr other ↦ other ∙ sym (ne_eqb two one (λ e. eqb-false one two other (sym e)))
]

-- of what isn't empty, the last two octets decide
pub last_two_decide : (octets : List ℕ) → 0 < length octets
    → pointwise ◌==◌ crlf (drop (length octets - 2) octets) ≡ ends_in_line_end octets
last_two_decide [] some = absurd (omega arith)
last_two_decide (one ∷ []) some = and-false (13 == one)
last_two_decide (one ∷ next ∷ []) some =
    ap (λ b. (13 == one) && b) (and-true (10 == next))
    ∙ ap (λ b. b && (10 == next)) (eqb-comm 13 one) ∙ ap (λ b. (one == 13) && b) (eqb-comm 10 next)
last_two_decide (one ∷ next ∷ third ∷ more) some =
    let down : length (one ∷ next ∷ third ∷ more) - 2 ≡ suc (length (next ∷ third ∷ more) - 2) =
    omega arith in
    ap (λ n. pointwise ◌==◌ crlf (drop n (one ∷ next ∷ third ∷ more))) down
    ∙ last_two_decide (next ∷ third ∷ more) (omega arith)
