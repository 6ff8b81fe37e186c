-- What is said of findings stays so in another order.
use Rattle.std.proofs.Common.{◌≡◌, ◌⊎◌, ◌↔◌, inl, inr, ℕ, Bool, true, false, IsTrue, List, [], ◌∷◌, ◌++◌, refl, sym, ap, ◌∙◌}
use Rattle.std.specs.Prelude.{◌||◌}
use Rattle.std.specs.List.{list_any}
use Rattle.std.specs.List.Sorted.{IsPermutation}
use Rattle.std.proofs.lemmas.List.Folds.{list_any-append}
use Rattle.std.proofs.lemmas.List.Sorted.{list_any-IsPermutation}
use Rattle.relay_check.specs.declared.findings.Finding.{Finding}
use Rattle.relay_check.specs.Check.{HasError, SaysConfiguration, is_error}

or_true : (b : Bool) → (b || true) ≡ true
or_true true = refl
or_true false = refl

-- an error more is an error among them
pub error_added : (old : List Finding) (finding : Finding) → is_error finding ≡ true → HasError (old ++ finding ∷ [])
error_added old finding severe =
    list_any-append is_error old (finding ∷ []) ∙ ap (λ b. list_any is_error old || (b || false)) severe ∙ or_true (list_any is_error old)

-- a text says a configuration, or a finding in it is an error, also once the findings are sorted
pub either : (answer : Bool) (text : List ℕ) (found sorted : List Finding) → (IsTrue answer ↔ SaysConfiguration text)
    → (answer ≡ false → HasError found) → IsPermutation found sorted → SaysConfiguration text ⊎ HasError sorted
either true text found sorted says error same = inl (says.0 refl)
either false text found sorted says error same = inr (sym (list_any-IsPermutation is_error found sorted same) ∙ error refl)
