use Rattle.std.proofs.Common.{◌++◌, take, inl, inr, arith, sym, ◌∙◌}
use Rattle.std.proofs.lemmas.List.{take_rest, length-drop}
use Rattle.std.proofs.lemmas.Result.{err_from_is_err_and}
use Rattle.relay_lines.proofs.ReplyFeedLemmas.{step_made, step_held, step_fault}
use Rattle.relay_lines.proofs.reply_reader.ReplyReader.read.Goals as goal

pub returns-in_err-cut-clause-faults : goal.returns-in_err-cut-clause-faults
returns-in_err-cut-clause-faults c =
    let p = err_from_is_err_and c.from_residual.result c.from_residual.ensures.1 in
    rw (p.1, p.2) (λ rest held.
    let piece = c.args.piece.now in
    let used = c.loop-used.used in
    elim (c.in_err-cut.ensures.faults (rest ++ take used piece) (c.loop-used.invariant.holds rest held)) [
      | inl memory ↦ inl memory
      | inr has ↦ inr (step_fault rest piece used c.in_err-cut.field-0.0 has)
    ])

pub returns-then-is_some-clause-reads : goal.returns-then-is_some-clause-reads
returns-then-is_some-clause-reads c = λ rest held.
    let piece = c.args.piece.now in
    let used = c.loop-used.used in
    let cut = c.in_ok-cut.cut in
    step_made c.step.new.self cut.reply rest piece used cut.used
    (c.in_ok-cut.ensures.reads (rest ++ take used piece) (c.loop-used.invariant.holds rest held))

pub loop-used-preserved : goal.loop-used-preserved
loop-used-preserved c =
    let piece = c.args.piece.now in
    let used = c.loop-used.used in
    let cut = c.in_ok-cut.cut in
    let short = rw take_rest at c.in_ok-cut.ensures.within.1 in
    record {
      within = omega (arith, short, length-drop used piece);
      holds = λ rest held.
          step_held c.step.new.self cut.reply rest piece used cut.used
          (sym c.is_some.ensures ∙ c.if-is_some.false)
          (c.in_ok-cut.ensures.reads (rest ++ take used piece) (c.loop-used.invariant.holds rest held));
    }
