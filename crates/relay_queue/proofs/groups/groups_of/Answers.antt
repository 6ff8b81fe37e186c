-- The next places of one message are the next group.
use Rattle.std.proofs.Common.{◌∙◌, ap, map, refl, sym}
use Rattle.std.specs.Option.{option_copied}
use Rattle.relay_queue.proofs.GroupLemmas.{one_more_selected}
use Rattle.relay_queue.proofs.groups.groups_of.Goals as goal

pub loop-first-preserved : goal.loop-first-preserved
loop-first-preserved c =
    one_more_selected c.in-Some.first.now.0 c.run_length.result c.loop-first.rest.now _ c.in-Some.first.now c.loop-first.all.items _ _ c.args.marks.now
    c.loop-first.invariant c.in_ok-push.ensures.items refl (c.in_ok-places.ensures ∙ ap (map (λ mark. mark.1)) c.split_at.ensures.front)
    c.split_at.ensures.back c.run_length.ensures.value (sym c.first.ensures.value ∙ ap option_copied c.in-Some.is) refl
