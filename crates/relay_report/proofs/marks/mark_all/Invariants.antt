-- the numbers to come
use Rattle.std.proofs.Common.{◌≡◌, drop}
use Rattle.relay_report.specs.Numbers.{all_begun}
use Rattle.relay_report.specs.Marks.{marked}
use Rattle.relay_report.proofs.marks.mark_all.Given as goal

abbrev pub invariant-loop-number : goal.invariant-loop-number
invariant-loop-number l = marked l.words.items (all_begun (drop l.number-index l.numbers)) ≡ marked l.initial.words.items (all_begun l.numbers)
