-- The numbers of the messages that may be queued, and how far a walk over them has come.
use Rattle.std.specs.Prelude.{ℕ, ◌==◌, List, [], ◌∷◌, ◌++◌, if◌then◌else◌}

-- Three lists of numbers, in order: those that the walk is still to come to, none if there is no walk; those that it
-- has come to and that were queued then; and those that have arrived since it began.
pub record Walk : Type 0 where
  pub left : List ℕ
  pub passed : List ℕ
  pub newer : List ℕ

-- no number, and no walk
abbrev pub no_numbers : Walk
no_numbers = record { left = []; passed = []; newer = [] }

-- one more message has arrived
abbrev pub with_newer : ℕ → Walk → Walk
with_newer number walk = record { left = walk.left; passed = walk.passed; newer = walk.newer ++ number ∷ [] }

-- the walk has come to one more message, which is queued
abbrev pub with_passed : ℕ → Walk → Walk
with_passed number walk = record { left = walk.left; passed = walk.passed ++ number ∷ []; newer = walk.newer }

-- these numbers are left of the walk
abbrev pub with_left : List ℕ → Walk → Walk
with_left left walk = record { left = left; passed = walk.passed; newer = walk.newer }

-- the walk begins: over the numbers that the last one has found queued, and those that have arrived since
abbrev pub begun : Walk → Walk
begun walk = record { left = walk.passed ++ walk.newer; passed = []; newer = [] }

-- the numbers of these places, each once; no place has the number 0
abbrev pub numbers_after : ℕ → List (ℕ × ℕ) → List ℕ
numbers_after last [] = []
numbers_after last (place ∷ places) =
    if place.0 == last then numbers_after last places else place.0 ∷ numbers_after place.0 places
