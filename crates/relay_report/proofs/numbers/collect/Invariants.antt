-- what is found, and the text to come
use Rattle.std.proofs.Common.{length}
use Rattle.relay_report.specs.Numbers.{Collecting, all_begun}
use Rattle.relay_report.proofs.numbers.collect.Given as goal

abbrev pub invariant-loop-place : goal.invariant-loop-place
invariant-loop-place l = Collecting l.stem l.text l.rest (all_begun l.initial.taken.items) (all_begun l.taken.items)

abbrev pub decreases-loop-place : goal.decreases-loop-place
decreases-loop-place l = length l.rest
