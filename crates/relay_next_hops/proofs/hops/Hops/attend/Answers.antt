-- One connection more was attended to.
use Rattle.relay_connections.proofs.Theorems.{leaves_then}
use Rattle.relay_next_hops.proofs.LeaveLemmas.{leaves_same}
use Rattle.relay_next_hops.proofs.hops.Hops.attend.Goals as goal

pub loop-step-init : goal.loop-step-init
loop-step-init g c = (λ match_is. match_is, λ routes aimed. aimed, leaves_same g.D.Disk.honest g.D.Disk.words c.args.relay.now)

pub loop-step-preserved : goal.loop-step-preserved
loop-step-preserved g c = (
  λ match_is. c.in_ok-attend_one.ensures.counts (c.loop-step.invariant.0 match_is),
  λ routes aimed. c.attend_one.ensures.aimed routes (c.loop-step.invariant.1 routes aimed),
  leaves_then g.D.Disk.honest g.D.Disk.words c.args.relay.now c.loop-step.relay c.attend_one.new.relay c.loop-step.invariant.2 c.in_ok-attend_one.ensures.leaves,
)

pub returns-then-closed-eq-MOST_LOSSES-clause-leaves : goal.returns-then-closed-eq-MOST_LOSSES-clause-leaves
returns-then-closed-eq-MOST_LOSSES-clause-leaves g c =
    leaves_then g.D.Disk.honest g.D.Disk.words c.args.relay.now c.loop-step.relay c.attend_one.new.relay c.loop-step.invariant.2 c.in_ok-attend_one.ensures.leaves

pub returns-clause-leaves : goal.returns-clause-leaves
returns-clause-leaves g c = c.loop-step.invariant.2
