-- the lines so far, and those of the messages to come; and how many recipients were withdrawn so far, and are to come
use Rattle.std.proofs.Common.{◌≡◌, ◌+◌, ◌-◌, ◌^◌, ◌<◌, ◌++◌, min}
use Rattle.std.specs.Iterator.Adapters.{zip_first, zip_second}
use Rattle.std.specs.Slice.Iter.{iter_rest}
use Rattle.relay_steering.specs.Report.{refused_lines, withdrawn_in}
use Rattle.relay_steering.proofs.report.Report.add_outcomes.Given as goal

abbrev pub invariant-loop-selected : goal.invariant-loop-selected
invariant-loop-selected l = record {
  lines : l.self.refused.items ++ refused_lines (iter_rest (zip_first l.selected-iterator)) (iter_rest (zip_second l.selected-iterator))
      ≡ l.fn.self.refused.items ++ refused_lines l.messages l.outcomes;
  count : min (l.recipients + withdrawn_in (iter_rest (zip_first l.selected-iterator)) (iter_rest (zip_second l.selected-iterator))) (2 ^ 64 - 1)
      ≡ min (withdrawn_in l.messages l.outcomes) (2 ^ 64 - 1);
  fits : l.recipients < 2 ^ 64;
  removal : l.self.removal ≡ l.fn.self.removal;
  same : l.self.recipients ≡ l.fn.self.recipients;
}
