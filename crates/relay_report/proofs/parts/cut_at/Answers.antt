-- the first mark cuts
use Rattle.std.proofs.Common.{ap, ◌∙◌, length, drop}
use Rattle.std.proofs.lemmas.List.{drop-drop}
use Rattle.relay_report.proofs.CutLemmas.{no_cut, cut_by}
use Rattle.relay_report.proofs.parts.cut_at.Goals as goal

pub returns-in-None : goal.returns-in-None
returns-in-None c = no_cut c.args.mark.now c.args.text.now c.in-None.ensures

pub returns-in-Some : goal.returns-in-Some
returns-in-Some c =
    cut_by c.args.mark.now c.args.text.now c.split_at.result.0.now c.split_at-in-Some.result.1.now c.in-Some.place c.requires.some c.in-Some.ensures c.split_at.ensures.front
    (c.split_at-in-Some.ensures.back ∙ ap (drop (length c.args.mark.now)) c.split_at.ensures.back ∙ drop-drop (length c.args.mark.now) c.in-Some.place c.args.text.now)
