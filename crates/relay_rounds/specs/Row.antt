-- Lists of which one is made from another, item by item.
use Rattle.std.specs.Prelude.{List, [], ◌∷◌}

-- each item of the second list relates so to the item at its position in the first
abbrev pub EachIs : {A B : Type 0} → (A → B → Type 0) → List A → List B → Type 0
EachIs is [] [] = Unit {0}
EachIs is [] (new ∷ news) = ⊥
EachIs is (old ∷ olds) [] = ⊥
EachIs is (old ∷ olds) (new ∷ news) = is old new × EachIs is olds news
