-- Until an attempt begins, the relay is not called.
use Rattle.relay_next_hops.proofs.LeaveLemmas.{leaves_same}
use Rattle.relay_next_hops.proofs.hop.Hop.await_greeting.Goals as goal

pub returns-then-not-fill-clause-leaves : goal.returns-then-not-fill-clause-leaves
returns-then-not-fill-clause-leaves g c = leaves_same g.D.Disk.honest g.D.Disk.words c.args.relay.now

pub returns-then-eq-clause-leaves : goal.returns-then-eq-clause-leaves
returns-then-eq-clause-leaves g c = leaves_same g.D.Disk.honest g.D.Disk.words c.args.relay.now
