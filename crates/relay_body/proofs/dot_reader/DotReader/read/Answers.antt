use Rattle.std.proofs.Common.{arith, true, false, refl, ◌∙◌}
use Rattle.std.proofs.lemmas.List.{take_rest, length-drop}
use Rattle.relay_body.proofs.ReadingLemmas.{uses_piece}
use Rattle.relay_body.proofs.dot_reader.DotReader.read.Goals as goal

pub returns-then-cut-clause-feeds : goal.returns-then-cut-clause-feeds
returns-then-cut-clause-feeds c =
    let step = rw c.if-cut.true at c.in_ok-cut.ensures.uses in
    let done = rw c.if-cut.true at c.in_ok-cut.ensures.done in
    record {
      uses = uses_piece c.args.self.now c.loop-used.self c.step.new.self c.args.piece.now c.loop-used.used c.in_ok-cut.cut.used true c.loop-used.invariant.uses step;
      whole = λ e. cc;
      done = (λ _. done, λ _. refl);
    }

pub loop-used-preserved : goal.loop-used-preserved
loop-used-preserved c =
    let step = rw c.if-cut.false at c.in_ok-cut.ensures.uses in
    let phase = rw c.if-cut.false at c.in_ok-cut.ensures.done in
    let short = rw take_rest at c.in_ok-cut.ensures.within.1 in
    record {
      within = omega (arith, short, length-drop c.loop-used.used c.args.piece.now);
      phase = phase;
      uses = uses_piece c.args.self.now c.loop-used.self c.step.new.self c.args.piece.now c.loop-used.used c.in_ok-cut.cut.used false c.loop-used.invariant.uses step;
      limit = c.step.ensures.limit ∙ c.loop-used.invariant.limit;
    }
