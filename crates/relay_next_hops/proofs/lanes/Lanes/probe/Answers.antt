-- Where a hold ends, none begins.
use Rattle.std.proofs.Common.{subst}
use Rattle.relay_lanes.specs.Paces.{IsHeldAt}
use Rattle.relay_next_hops.proofs.HoldLemmas.{probed_more}
use Rattle.relay_next_hops.proofs.lanes.Lanes.probe.Goals as goal

pub returns-clause-holds : goal.returns-clause-holds
returns-clause-holds c = λ tick lane held.
    probed_more tick c.args.now.now.tick c.args.number c.args.self.now.paces lane (subst (λ paces. IsHeldAt tick paces lane) c.probe.ensures held)
