-- a CR in the line
use Rattle.std.proofs.Common.{sym, ◌∙◌}
use Rattle.std.proofs.lemmas.Bool.{false≢true}
use Rattle.relay_report.proofs.SplitLemmas.{cr_opens_none, delimits}
use Rattle.relay_report.proofs.parts.delimiter.Goals as goal

pub returns-else-has_no_cr-clause-delimiter : goal.returns-else-has_no_cr-clause-delimiter
returns-else-has_no_cr-clause-delimiter c =
    cr_opens_none c.args.text.now c.in-Some.after.now c.split_at.result.0.now c.in-Some-find_crlf.size c.in-Some.ensures.line c.in-Some-find_crlf.ensures.first c.split_at.ensures.front
    (λ once. false≢true (sym c.if-has_no_cr.false ∙ c.has_no_cr.ensures.1 once))

pub returns-then-has_no_cr-clause-delimiter : goal.returns-then-has_no_cr-clause-delimiter
returns-then-has_no_cr-clause-delimiter c =
    delimits c.args.text.now c.in-Some.after.now c.split_at.result.0.now c.split_at-then-has_no_cr.result.0.now c.split_at-then-has_no_cr.result.1.now c.in-Some-find_crlf.size c.in-Some.ensures.line c.in-Some-find_crlf.ensures.first
    c.in-Some-find_crlf.ensures.within c.split_at.ensures.front (c.has_no_cr.ensures.0 c.if-has_no_cr.true) c.split_at-then-has_no_cr.ensures.front c.split_at-then-has_no_cr.ensures.back
