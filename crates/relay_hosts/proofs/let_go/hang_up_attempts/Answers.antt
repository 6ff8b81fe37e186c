use Rattle.std.proofs.Common.{◌≡◌, ◌<◌, length, sym, ap, ◌∙◌, rules}
use Rattle.std.specs.Prelude.{slice_index_or, slice_set}
use Rattle.std.proofs.lemmas.List.Edits.{map_over_more}
use Rattle.relay_world.specs.HangUp.{hung_up_attempt}
use Rattle.relay_hosts.proofs.let_go.hang_up_attempts.Goals as goal

pub loop-place-preserved : goal.loop-place-preserved
loop-place-preserved c =
    let place = c.loop-place.place in
    let one = c.index-attempts-place.result in
    let within : place < length c.args.attempts.now = search rules in
    let there : one ≡ slice_index_or c.loop-place.attempts place one = search rules in
    ap (λ x. slice_set c.loop-place.attempts place x) (c.hang_up_attempt.ensures ∙ ap (λ x. hung_up_attempt c.args.node x) (sym there))
    ∙ map_over_more (hung_up_attempt c.args.node) c.args.attempts.now c.loop-place.attempts place one within c.loop-place.invariant there
