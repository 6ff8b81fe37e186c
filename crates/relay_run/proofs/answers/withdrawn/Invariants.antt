-- the lines so far, and those of the messages to come; and how many recipients were withdrawn so far, and are to come
use Rattle.std.proofs.Common.{◌≡◌, ◌+◌, ◌-◌, ◌^◌, ◌<◌, ◌++◌, min}
use Rattle.std.specs.Iterator.Adapters.{zip_first, zip_second}
use Rattle.std.specs.Slice.Iter.{iter_rest}
use Rattle.relay_run.specs.Answers.{refused_lines, withdrawn_in}
use Rattle.relay_run.proofs.answers.withdrawn.Given as goal

abbrev pub invariant-loop-named : goal.invariant-loop-named
invariant-loop-named l = record {
  lines : l.answer.items ++ refused_lines (iter_rest (zip_first l.named-iterator)) (iter_rest (zip_second l.named-iterator))
      ≡ refused_lines l.names l.outcomes;
  count : min (l.recipients + withdrawn_in (iter_rest (zip_first l.named-iterator)) (iter_rest (zip_second l.named-iterator))) (2 ^ 64 - 1)
      ≡ min (withdrawn_in l.names l.outcomes) (2 ^ 64 - 1);
  fits : l.recipients < 2 ^ 64;
}
