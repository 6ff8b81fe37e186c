-- Rows of which one is made of another, one after another.
use Rattle.std.proofs.Common.{List, [], ◌∷◌, ◌++◌}
use Rattle.relay_rounds.specs.Row.{EachIs}

-- one more is so
pub each_on : {A B : Type 0} → (is : A → B → Type 0) (olds : List A) (news : List B) (old : A) (new : B) → EachIs is olds news → is old new → EachIs is (olds ++ old ∷ []) (news ++ new ∷ [])
each_on is [] [] old new all one = (one, tt)
each_on is [] (first ∷ news) old new all one = absurd all
each_on is (first ∷ olds) [] old new all one = absurd all
each_on is (first ∷ olds) (other ∷ news) old new all one = (all.0, each_on is olds news old new all.1 one)

-- what is so is as well so by other words
pub each_as : {A B : Type 0} → (is as_well : A → B → Type 0) → ((old : A) (new : B) → is old new → as_well old new) → (olds : List A) (news : List B) → EachIs is olds news → EachIs as_well olds news
each_as is as_well so [] [] all = tt
each_as is as_well so [] (first ∷ news) all = absurd all
each_as is as_well so (first ∷ olds) [] all = absurd all
each_as is as_well so (first ∷ olds) (other ∷ news) all = (so first other all.0, each_as is as_well so olds news all.1)

-- a row of a row
pub each_through : {A B C : Type 0} → (is : A → B → Type 0) (then : B → C → Type 0) (whole : A → C → Type 0) → ((old : A) (one : B) (new : C) → is old one → then one new → whole old new) → (olds : List A) (ones : List B) (news : List C) → EachIs is olds ones → EachIs then ones news → EachIs whole olds news
each_through is then whole so [] [] [] first second = tt
each_through is then whole so [] [] (new ∷ news) first second = absurd second
each_through is then whole so [] (one ∷ ones) news first second = absurd first
each_through is then whole so (old ∷ olds) [] news first second = absurd first
each_through is then whole so (old ∷ olds) (one ∷ ones) [] first second = absurd second
each_through is then whole so (old ∷ olds) (one ∷ ones) (new ∷ news) first second = (so old one new first.0 second.0, each_through is then whole so olds ones news first.1 second.1)
