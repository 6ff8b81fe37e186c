-- what was made so far, and what is to come
use Rattle.std.proofs.Common.{◌≡◌, ◌++◌, drop}
use Rattle.relay_book.specs.Marks.{place_steps_by}
use Rattle.relay_book.proofs.book.steps.place_steps_by.Given as goal

abbrev pub invariant-loop-ruling : goal.invariant-loop-ruling
invariant-loop-ruling l =
    l.steps.items ++ place_steps_by l.outcome.version l.message l.outcome.at (drop l.ruling-index l.outcome.rulings)
    ≡ place_steps_by l.outcome.version l.message l.outcome.at l.outcome.rulings
