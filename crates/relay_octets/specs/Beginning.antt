-- Prefixes of lists.
use Rattle.std.specs.Prelude.{◌≡◌, List, ◌++◌}

-- the front is a prefix of the whole
abbrev pub Begins : {A : Type 0} → List A → List A → Type 0
Begins {A = A} front whole = (rest : List A) × (whole ≡ front ++ rest)
