use Rattle.std.proofs.Common.{ℕ}
use Rattle.relay_attempts.proofs.KeyLemmas.{all_listed, keys_keep, keys_more}
use Rattle.relay_attempts.proofs.gathering.gathered.Goals as goal

pub loop-mark-preserved : goal.loop-mark-preserved
loop-mark-preserved c = record {
  rise = c.insert.ensures.ordered;
  marked =
      keys_more {A = ℕ × ℕ} (λ mark. mark.0) c.args.marks.now (0, 0) c.loop-mark.mark-index c.loop-mark.numbers.keys c.insert.new.self.keys c.loop-mark-test.true
      c.in_ok-insert.ensures.keys c.loop-mark.invariant.marked;
}

pub loop-number-preserved : goal.loop-number-preserved
loop-number-preserved c = record {
  rise = c.insert-in-loop-number.ensures.ordered;
  marked = λ number there.
      keys_keep c.loop-number.numbers.keys c.insert-in-loop-number.new.self.keys _ c.in_ok-insert-2.ensures.keys number (c.loop-number.invariant.marked number there);
  listed =
      keys_more (λ (n : ℕ). n) c.args.list.now 0 c.loop-number.number-index c.loop-number.numbers.keys c.insert-in-loop-number.new.self.keys c.loop-number-test.true
      c.in_ok-insert-2.ensures.keys c.loop-number.invariant.listed;
}

pub returns-clause-all : goal.returns-clause-all
returns-clause-all c = record {
  marked = c.loop-number.invariant.marked;
  listed = all_listed c.args.list.now c.loop-number.number-index c.loop-number.numbers.keys c.loop-number-test.false c.loop-number.invariant.listed;
}
