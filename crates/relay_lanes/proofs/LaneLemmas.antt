-- The last tasks of a lane, which weren't checked, and a lane that is empty.
use Rattle.std.proofs.Common.{◌≡◌, ℕ, ◌+◌, ◌-◌, min, List, [], ◌∷◌, ◌++◌, length, drop, refl, sym, ap, ◌∙◌, arith}
use Rattle.std.proofs.lemmas.List.{drop-drop, drop_min}

-- what is left after one of two places, where both are the same or past the end
pub drop_same : {A : Type 0} (xs : List A) (a b : ℕ) → min a (length xs) ≡ min b (length xs) → drop a xs ≡ drop b xs
drop_same xs a b e = sym (drop_min a xs) ∙ ap (λ n. drop n xs) e ∙ drop_min b xs

-- one less of the last ones is all of them but the first
pub last_less : {A : Type 0} (xs : List A) (u : ℕ)
    → drop (length xs - (min u (length xs) - 1)) xs ≡ drop 1 (drop (length xs - u) xs)
last_less xs u =
    drop_same xs (length xs - (min u (length xs) - 1)) ((length xs - u) + 1) (omega arith)
    ∙ sym (drop-drop 1 (length xs - u) xs)

-- the front of an empty list is empty
pub front_none : {A : Type 0} (xs ys : List A) → xs ++ ys ≡ [] → xs ≡ []
front_none [] ys none = refl
front_none (x ∷ xs) ys none = absurd (cc none)
