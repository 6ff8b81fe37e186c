-- Each step keeps what the rest adds to the row.
use Rattle.std.proofs.Common.{sym, ◌∙◌, arith}
use Rattle.std.proofs.lemmas.Bool.{cond-true, cond-false}
use Rattle.relay_envelope.proofs.RowLemmas.{row_len-passed, row_len-ended, row_len-broken, row_len-end}
use Rattle.relay_envelope.proofs.row.row_len.Goals as goal

pub returns-then-is_end-clause-value : goal.returns-then-is_end-clause-value
returns-then-is_end-clause-value c =
    row_len-ended c.args.stop c.loop-i.place c.args.text.now c.loop-i.i (omega arith) (sym c.is_end.ensures ∙ c.if-is_end.true) ∙ c.loop-i.invariant

pub returns-in_err-place-clause-value : goal.returns-in_err-place-clause-value
returns-in_err-place-clause-value c =
    rw c.from_residual.ensures (row_len-broken c.args.stop c.loop-i.place c.args.text.now c.loop-i.i (omega arith) (sym c.is_end.ensures ∙ c.if-is_end.false) (sym c.place_after.ensures ∙ c.in_err-place.was) ∙ c.loop-i.invariant)

pub loop-i-preserved : goal.loop-i-preserved
loop-i-preserved c =
    row_len-passed c.args.stop c.loop-i.place c.args.text.now c.loop-i.i c.in_ok-place.place (omega arith) (sym c.is_end.ensures ∙ c.if-is_end.false) (sym c.place_after.ensures ∙ c.in_ok-place.was) ∙ c.loop-i.invariant

pub returns-then-is_outside-clause-value : goal.returns-then-is_outside-clause-value
returns-then-is_outside-clause-value c =
    sym (row_len-end c.args.stop c.loop-i.place c.args.text.now c.loop-i.i (omega arith) ∙ cond-true _ _ _ (sym c.is_outside.ensures ∙ c.if-is_outside.true)) ∙ c.loop-i.invariant

pub returns-else-is_outside-clause-value : goal.returns-else-is_outside-clause-value
returns-else-is_outside-clause-value c =
    sym (row_len-end c.args.stop c.loop-i.place c.args.text.now c.loop-i.i (omega arith) ∙ cond-false _ _ _ (sym c.is_outside.ensures ∙ c.if-is_outside.false)) ∙ c.loop-i.invariant
