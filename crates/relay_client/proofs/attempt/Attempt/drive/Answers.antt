use Rattle.std.proofs.Common.{◌+◌, ◌++◌, ◌∙◌, take, arith}
use Rattle.std.proofs.lemmas.List.{length-drop, take_rest}
use Rattle.relay_client.proofs.KeepLemmas.{on_ended, on_in_piece, on_running}
use Rattle.relay_client.proofs.attempt.Attempt.drive.Goals as goal

pub returns-in-Some-clause-keeps : goal.returns-in-Some-clause-keeps
returns-in-Some-clause-keeps c = λ delivery input output is k.
    let piece = c.args.piece.now in
    let used = c.loop-used.used in
    let step = c.in_ok-step.step in
    let next = c.step.new.self in
    on_ended next.reader next.talk delivery (input ++ take (used + step.used) piece) (output ++ c.step.new.out.items)
    step.verdicts c.in-Some.verdicts _ c.in-Some.is c.in-Some.verdicts-is
    (on_in_piece next.reader next.talk delivery input (output ++ c.step.new.out.items) piece used step.used step.verdicts
    (c.in_ok-step.ensures.keeps delivery (input ++ take used piece) output is
    (c.loop-used.invariant.keeps delivery input output is k)))

pub loop-used-preserved : goal.loop-used-preserved
loop-used-preserved c =
    let piece = c.args.piece.now in
    let used = c.loop-used.used in
    let step = c.in_ok-step.step in
    let next = c.step.new.self in
    let short = rw take_rest at c.in_ok-step.ensures.within.1 in
    record {
      within = omega (arith, short, c.loop-used.invariant.within, length-drop used piece);
      stage = c.step.ensures.stage ∙ c.loop-used.invariant.stage;
      keeps = λ delivery input output is k.
          on_running next.reader next.talk delivery (input ++ take (used + step.used) piece)
          (output ++ c.step.new.out.items) step.verdicts c.in_default.is
          (on_in_piece next.reader next.talk delivery input (output ++ c.step.new.out.items) piece used step.used
          step.verdicts (c.in_ok-step.ensures.keeps delivery (input ++ take used piece) output is
          (c.loop-used.invariant.keeps delivery input output is k)));
    }
