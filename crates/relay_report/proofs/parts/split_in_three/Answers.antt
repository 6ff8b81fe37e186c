-- a mark that is missing leaves no three
use Rattle.relay_report.proofs.CutLemmas.{no_second, no_third}
use Rattle.relay_report.proofs.parts.split_in_three.Goals as goal

pub returns-in-None-cut_at : goal.returns-in-None-cut_at
returns-in-None-cut_at c = no_second c.args.mark.now c.args.text.now c.in-Some.one.now c.in-Some.after.now c.requires c.in-Some.ensures c.in-None-cut_at.ensures

pub returns-in-None-cut_at-2 : goal.returns-in-None-cut_at-2
returns-in-None-cut_at-2 c =
    no_third c.args.mark.now c.args.text.now c.in-Some.one.now c.in-Some.after.now c.in-Some-cut_at.two.now c.in-Some-cut_at.more.now c.requires c.in-Some.ensures c.in-Some-cut_at.ensures c.in-None-cut_at-2.ensures
