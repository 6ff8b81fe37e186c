-- Of no places yet the last moment is now.
use Rattle.std.proofs.Common.{arith}
use Rattle.relay_next_hops.proofs.DueLemmas.{now_or_later}
use Rattle.relay_next_hops.proofs.hop.last_due.Goals as goal

pub loop-place-init : goal.loop-place-init
loop-place-init c =
    let is = c.seconds-last.ensures.seconds in
    (omega (arith, is, now_or_later c.args.places.now c.args.now), omega (arith, is))
