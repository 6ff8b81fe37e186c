use Rattle.std.proofs.Common.{◌≡◌, ◌<◌, length, sym, ap, ◌∙◌, rules}
use Rattle.std.specs.Prelude.{slice_index_or, slice_set}
use Rattle.std.proofs.lemmas.List.Edits.{map_over_more}
use Rattle.relay_world.specs.Crashes.{let_go_link}
use Rattle.relay_hosts.proofs.let_go.let_go_links.Goals as goal

pub loop-place-preserved : goal.loop-place-preserved
loop-place-preserved c =
    let place = c.loop-place.place in
    let one = c.index-links-place.result in
    let within : place < length c.args.links.now = search rules in
    let there : one ≡ slice_index_or c.loop-place.links place one = search rules in
    ap (λ x. slice_set c.loop-place.links place x)
    (c.let_go_one.ensures ∙ ap (λ x. let_go_link c.args.node c.args.attempts.now x) (sym there))
    ∙ map_over_more (let_go_link c.args.node c.args.attempts.now) c.args.links.now c.loop-place.links place one within
    c.loop-place.invariant there
