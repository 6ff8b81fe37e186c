-- The places of a message that pass a test.
use Rattle.std.proofs.Common.{◌≡◌, ◌⊎◌, ◌+◌, inl, inr, ℕ, suc, Bool, true, false, List, [], ◌∷◌, ◌++◌, Some, refl, subst, cond, arith}
use Rattle.std.specs.Prelude.{slice_get}
use Rattle.std.specs.List.{Contains}
use Rattle.relay_attempts.specs.Hops.{places_where}
use Rattle.relay_book.specs.declared.message.Place.{Place}
use Rattle.relay_world.proofs.AmongLemmas.{in_cons, in_none}

-- a place that passes a test is there, and passes it
abbrev pub IsThere : (ℕ → Place → Bool) → ℕ → List Place → ℕ → Type 0
IsThere test n places number =
    (k : ℕ) × (place : Place) × (number ≡ n + k) × (slice_get places k ≡ Some place) × (test number place ≡ true)

there_first : (is : Bool) (test : ℕ → Place → Bool) (n : ℕ) (place : Place) (places : List Place) (rest : List ℕ) (number : ℕ)
    → test n place ≡ is → (Contains rest number → IsThere test (suc n) places number)
    → Contains (cond is (n ∷ []) [] ++ rest) number → IsThere test n (place ∷ places) number
there_first true test n place places rest number passes more has = by (in_cons n number rest has)
  where
    by : (n ≡ number) ⊎ Contains rest number → IsThere test n (place ∷ places) number
    by (inl same) = (0, place, omega (arith, same), refl, subst (λ m. test m place ≡ true) same passes)
    by (inr after) =
        let there = more after in
        let at = there.2 in
        (suc there.0, there.1, omega (arith, at), there.3, there.4)
there_first false test n place places rest number passes more has =
    let there = more has in
    let at = there.2 in
    (suc there.0, there.1, omega (arith, at), there.3, there.4)

pub passing_there : (test : ℕ → Place → Bool) (n : ℕ) (places : List Place) (number : ℕ)
    → Contains (places_where test n places) number → IsThere test n places number
passing_there test n [] number has = absurd (in_none number has)
passing_there test n (place ∷ places) number has =
    there_first (test n place) test n place places (places_where test (suc n) places) number refl
    (λ after. passing_there test (suc n) places number after) has
