-- Octets that stand in a text, and that it lacks.
use Rattle.std.proofs.Common.{◌≡◌, ℕ, ◌<◌, Bool, true, false, ◌||◌, ◌==◌, List, [], ◌∷◌, ◌++◌, length, get_or, refl, sym, ap, ◌∙◌}
use Rattle.std.specs.List.{AllPass}
use Rattle.std.proofs.lemmas.List.{get_or_default}
use Rattle.std.proofs.lemmas.List.Folds.{list_any_none}
use Rattle.std.proofs.lemmas.Bool.{eqb-true, eq-eqb, false≢true}
use Rattle.std.proofs.Math.Bool.{or-true}
use Rattle.relay_envelope.specs.Mailbox.{stands_in}

-- a test that cannot be true is false
pub false_by : (b : Bool) → (b ≡ true → ⊥) → b ≡ false
false_by true never = absurd (never refl)
false_by false never = refl

-- an octet that stands at no place does not stand in the text
pub lacks_by_place : (octet : ℕ) (text : List ℕ) → ((k : ℕ) → k < length text → get_or text k 0 == octet ≡ true → ⊥) → stands_in octet text ≡ false
lacks_by_place octet text nowhere =
    list_any_none (λ other. other == octet) text (λ k d h. false_by _ (λ e. nowhere k h (ap (λ o. o == octet) (get_or_default text k 0 d h) ∙ e)))

-- an octet that a test refuses does not stand where all pass
pub lacks_by_test : (test : ℕ → Bool) (octet : ℕ) (text : List ℕ) → test octet ≡ false → AllPass test text → stands_in octet text ≡ false
lacks_by_test test octet text refused all =
    lacks_by_place octet text (λ k h e. false≢true (sym refused ∙ ap test (sym (eqb-true (get_or text k 0) octet e)) ∙ all k 0 h))

-- between any octets it is seen
pub stands_between : (octet : ℕ) (front back : List ℕ) → stands_in octet (front ++ octet ∷ back) ≡ true
stands_between octet [] back = ap (λ b. b || stands_in octet back) (eq-eqb octet octet refl)
stands_between octet (other ∷ front) back =
    ap (λ b. (other == octet) || b) (stands_between octet front back) ∙ or-true (other == octet)
