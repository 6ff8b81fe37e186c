-- Bodies after the first one that are read one by one into an outline.
use Rattle.std.proofs.Common.{ℕ, zero, suc, ◌≤◌, List, arith}
use Rattle.relay_book.specs.Queue.{Queue}
use Rattle.relay_book.specs.StandsFor.{ReadsBody, ReadsNoBody}
use Rattle.relay_records.specs.Reading.{ReadsAt, ReadsNoneAt}

pub next_at : (before : ℕ) (queue : Queue) (body : List ℕ) (left : Queue) → 1 ≤ before → ReadsBody queue body left
    → ReadsAt before queue body left
next_at zero queue body left some reads = absurd (omega (arith, some))
next_at (suc before) queue body left some reads = reads

pub none_next : (before : ℕ) (queue : Queue) (body : List ℕ) → 1 ≤ before → ReadsNoBody queue body
    → ReadsNoneAt before queue body
none_next zero queue body some out = absurd (omega (arith, some))
none_next (suc before) queue body some out = record { none = out.none }
