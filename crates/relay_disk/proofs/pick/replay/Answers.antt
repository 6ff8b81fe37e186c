use Rattle.std.proofs.Common.{◌∷◌, [], ap, ◌∙◌, List, ℕ}
use Rattle.relay_disk.specs.MayLeave.{are_within}
use Rattle.relay_disk.proofs.CallLemmas.{next_within}
use Rattle.relay_disk.proofs.pick.replay.Goals as goal

pub replay-requires : goal.replay-requires
replay-requires c =
    ap (λ (image : List ℕ). are_within image (c.call-item.result ∷ [])) c.loop-call.invariant
    ∙ next_within c.args.start.now c.args.calls.now c.loop-call.call-index c.call-item.result c.loop-call-test.true c.call-item.is c.requires
