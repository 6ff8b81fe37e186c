-- all bits of the words before are set
use Rattle.std.proofs.Common.{◌≡◌, ℕ, ◌*◌, ◌<◌}
use Rattle.relay_report.specs.Marks.{IsMarked}
use Rattle.relay_report.proofs.marks.least_unmarked.Given as goal

abbrev pub invariant-loop-word : goal.invariant-loop-word
invariant-loop-word l = (l.least ≡ 64 * l.word-index) × ((lower : ℕ) → lower < l.least → IsMarked l.words lower)
