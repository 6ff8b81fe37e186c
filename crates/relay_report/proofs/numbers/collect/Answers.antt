-- each step leaves what stands after the stem's first place
use Rattle.std.proofs.Common.{◌++◌, ◌+◌, drop, length, subst, ap, ◌∙◌}
use Rattle.relay_report.specs.Numbers.{all_begun, NextIsAfter}
use Rattle.relay_report.proofs.BegunLemmas.{started}
use Rattle.relay_report.proofs.CollectLemmas.{begun_after, collect_step, collect_end}
use Rattle.relay_report.proofs.numbers.collect.Goals as goal

pub loop-place-preserved : goal.loop-place-preserved
loop-place-preserved c =
    collect_step c.args.stem.now c.args.text.now c.loop-place.rest.now c.after-rest.result.now (all_begun c.args.taken.now.items) (all_begun c.loop-place.taken.items) (all_begun c.push_leading.new.taken.items)
    c.in-Some.place c.least_step-step.result c.loop-place.invariant c.in-Some.ensures.first
    (subst (λ word. NextIsAfter word c.least_step-step.result) c.needle.ensures c.least_step-step.ensures.after)
    (begun_after c.loop-place.taken.items c.push_leading.new.taken.items c.after.result.now (c.in_ok-push_leading.ensures)
    ∙ ap (λ t. all_begun c.loop-place.taken.items ++ started t) c.after.ensures ∙ ap (λ n. all_begun c.loop-place.taken.items ++ started (drop (c.in-Some.place + length n) c.loop-place.rest.now)) c.needle-in-Some.ensures) c.after-rest.ensures

pub returns : goal.returns
returns c =
    collect_end c.args.stem.now c.args.text.now c.loop-place.rest.now (all_begun c.args.taken.now.items) (all_begun c.loop-place.taken.items) c.loop-place.invariant c.in_default.ensures.first
