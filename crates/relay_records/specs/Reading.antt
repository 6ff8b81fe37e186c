-- One body more is read, after this many others: the first as a snapshot or a first change, each other as a change.
use Rattle.std.specs.Prelude.{ℕ, zero, suc, List}
use Rattle.relay_book.specs.Queue.{Queue}
use Rattle.relay_book.specs.StandsFor.{ReadsBody, ReadsFirst}

-- after this many bodies, which left a queue, the body leaves another
abbrev pub ReadsAt : ℕ → Queue → List ℕ → Queue → Type 0
ReadsAt zero queue body left = ReadsFirst body left
ReadsAt (suc before) queue body left = ReadsBody queue body left

-- it leaves none
pub record ReadsNoneAt (before : ℕ) (queue : Queue) (body : List ℕ) : Type 0 where
  pub none : (left : Queue) → ReadsAt before queue body left → ⊥
