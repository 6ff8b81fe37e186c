-- The answer to a request that has withdrawn places, put together.
use Rattle.std.proofs.Common.{◌≡◌, ◌⊎◌, inl, inr, ℕ, ◌+◌, ◌-◌, ◌^◌, ◌<◌, min, List, [], ◌∷◌, ◌++◌, refl, sym, ◌∙◌, ap, arith, append-nil}
use Rattle.relay_control.specs.declared.named.Named.{Named}
use Rattle.relay_run.specs.Answers.{refused_lines, withdrawn_in}
use Rattle.relay_run.specs.declared.withdrawing.Outcome.{Outcome}

-- no message is left, or no outcome
pub no_lines : (names : List Named) (outcomes : List Outcome) → (names ≡ []) ⊎ (outcomes ≡ []) → refused_lines names outcomes ≡ []
no_lines names [] none = refl
no_lines [] (outcome ∷ outcomes) none = refl
no_lines (named ∷ names) (outcome ∷ outcomes) (inl e) = let no : ⊥ = cc in absurd no
no_lines (named ∷ names) (outcome ∷ outcomes) (inr e) = let no : ⊥ = cc in absurd no

pub none_in : (names : List Named) (outcomes : List Outcome) → (names ≡ []) ⊎ (outcomes ≡ []) → withdrawn_in names outcomes ≡ 0
none_in names [] none = refl
none_in [] (outcome ∷ outcomes) none = refl
none_in (named ∷ names) (outcome ∷ outcomes) (inl e) = let no : ⊥ = cc in absurd no
none_in (named ∷ names) (outcome ∷ outcomes) (inr e) = let no : ⊥ = cc in absurd no

pub whole : (line : ℕ → List ℕ) (new counted lines rest total last : List ℕ) (count more sum : ℕ) → new ≡ counted ++ last → counted ≡ lines ++ line count
    → lines ++ rest ≡ total → rest ≡ [] → min (count + more) (2 ^ 64 - 1) ≡ min sum (2 ^ 64 - 1) → more ≡ 0 → count < 2 ^ 64
    → new ≡ (total ++ line (min sum (2 ^ 64 - 1))) ++ last
whole line new counted lines rest total last count more sum is counts ends none same zero fits =
    let all : lines ≡ total = sym (append-nil lines) ∙ ap (λ (it : List ℕ). lines ++ it) (sym none) ∙ ends in
    let it : count ≡ min sum (2 ^ 64 - 1) = omega (arith, same, zero, fits) in
    is ∙ ap (λ (front : List ℕ). front ++ last) (counts ∙ ap (λ (front : List ℕ). front ++ line count) all ∙ ap (λ (n : ℕ). total ++ line n) it)
