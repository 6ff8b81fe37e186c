-- Texts that are added one after another.
use Rattle.std.proofs.Common.{◌≡◌, ℕ, List, ◌++◌, ap, ◌∙◌, append_assoc}

pub joined2 : (old a new x y : List ℕ) → a ≡ old ++ x → new ≡ a ++ y → new ≡ old ++ (x ++ y)
joined2 old a new x y one two = two ∙ ap (λ l. l ++ y) one ∙ append_assoc old x y

pub joined3 : (old a b new x y z : List ℕ) → a ≡ old ++ x → b ≡ a ++ y → new ≡ b ++ z → new ≡ old ++ (x ++ y ++ z)
joined3 old a b new x y z one two three = joined2 old b new (x ++ y) z (joined2 old a b x y one two) three

pub joined4 : (old a b c new x y z w : List ℕ) → a ≡ old ++ x → b ≡ a ++ y → c ≡ b ++ z → new ≡ c ++ w → new ≡ old ++ (x ++ y ++ z ++ w)
joined4 old a b c new x y z w one two three four =
    joined2 old c new (x ++ y ++ z) w (joined3 old a b c x y z one two three) four
