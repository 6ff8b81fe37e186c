-- the digits that are still to come
use Rattle.std.proofs.Common.{◌≡◌, ◌≤◌, ◌-◌}
use Rattle.relay_report.specs.Numbers.{beginnings}
use Rattle.relay_report.specs.Marks.{marked}
use Rattle.relay_report.proofs.marks.mark_begun.Given as goal

abbrev pub invariant-loop : goal.invariant-loop
invariant-loop l = (marked l.words.items (beginnings (20 - l.counter) l.rest) ≡ marked l.initial.words.items (beginnings 20 l.initial.number)) × (l.counter ≤ 20)
