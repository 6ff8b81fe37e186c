-- An attempt that may start, or why not.
use Rattle.std.proofs.Common.{◌≡◌, ◌≢◌, true, false, List, [], ◌∷◌, sym, ◌∙◌, ap}
use Rattle.std.proofs.lemmas.Bool.{false≢true}
use Rattle.relay_attempts.specs.Hops.{is_any}

-- a list is empty or has an element
pub none_there : {A : Type 0} (xs : List A) → is_any xs ≡ false → xs ≡ []
none_there [] none = cc
none_there (x ∷ xs) none = absurd (false≢true (sym none))

pub some_there : {A : Type 0} (xs : List A) → is_any xs ≡ true → xs ≢ []
some_there xs some none = false≢true (sym (ap is_any none) ∙ some)
