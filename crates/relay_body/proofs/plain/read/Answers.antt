use Rattle.std.proofs.Common.{arith, true, false, refl, ◌∙◌}
use Rattle.relay_body.proofs.PlainLemmas.{uses_octet}
use Rattle.relay_body.proofs.plain.read.Goals as goal

pub returns-then-done-clause-feeds : goal.returns-then-done-clause-feeds
returns-then-done-clause-feeds c =
    let step = rw c.if-done.true at c.in_ok-done.ensures.uses in
    let done = rw c.if-done.true at c.in_ok-done.ensures.done in
    record {
      uses =
          uses_octet c.args.reader.now c.loop-used.reader c.step.new.reader c.args.piece.now c.loop-used.used true c.loop-used.invariant.uses step c.loop-used-test.true;
      whole = λ e. cc;
      done = (λ _. done, λ _. refl);
    }

pub loop-used-preserved : goal.loop-used-preserved
loop-used-preserved c =
    let step = rw c.if-done.false at c.in_ok-done.ensures.uses in
    record {
      within = omega arith;
      phase = rw c.if-done.false at c.in_ok-done.ensures.done;
      uses =
          uses_octet c.args.reader.now c.loop-used.reader c.step.new.reader c.args.piece.now c.loop-used.used false c.loop-used.invariant.uses step c.loop-used-test.true;
      limit = c.step.ensures.limit ∙ c.loop-used.invariant.limit;
    }
