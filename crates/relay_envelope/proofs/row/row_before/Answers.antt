-- A length within the text is that of a row before its end, and where there is none no row stands so.
use Rattle.relay_envelope.proofs.RowLemmas.{row_found, row_not_found, row_past}
use Rattle.relay_envelope.proofs.row.row_before.Goals as goal

pub returns-in_err-len : goal.returns-in_err-len
returns-in_err-len c =
    rw c.from_residual.ensures (row_not_found c.args.stop c.args.text.now c.requires c.in_err-len.ensures.value)

pub returns-then-len-text : goal.returns-then-len-text
returns-then-len-text c = row_found c.args.stop c.args.text.now c.in_ok-len.len c.in_ok-len.ensures.value c.if-len-text.true

pub returns-else-len-text : goal.returns-else-len-text
returns-else-len-text c = row_past c.args.stop c.args.text.now c.in_ok-len.len c.requires c.in_ok-len.ensures.value c.if-len-text.false
