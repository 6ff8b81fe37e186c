-- without an opening, and without three pieces
use Rattle.std.proofs.Common.{◌∙◌, ap, drop}
use Rattle.relay_report.proofs.SplitLemmas.{none_cuts, none_opens}
use Rattle.relay_report.proofs.parts.split_report.Goals as goal

pub returns-in-None : goal.returns-in-None
returns-in-None c = none_opens c.args.text.now c.after-start.result.now (c.after-start.ensures ∙ ap (λ n. drop n c.args.text.now) c.header_end.ensures) c.in-None.ensures.delimiter

pub returns-in-None-split_in_three : goal.returns-in-None-split_in_three
returns-in-None-split_in_three c =
    none_cuts c.args.text.now c.after-start.result.now c.in-Some.mark.now c.in-Some.pieces.now (c.after-start.ensures ∙ ap (λ n. drop n c.args.text.now) c.header_end.ensures) c.in-Some.ensures.delimiter c.in-None-split_in_three.ensures
