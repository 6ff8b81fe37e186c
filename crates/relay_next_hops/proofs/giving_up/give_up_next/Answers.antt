-- No message is without a hop.
use Rattle.relay_next_hops.proofs.LeaveLemmas.{leaves_same}
use Rattle.relay_next_hops.proofs.giving_up.give_up_next.Goals as goal

pub returns-in-None-clause-leaves : goal.returns-in-None-clause-leaves
returns-in-None-clause-leaves g c = leaves_same g.D.Disk.honest g.D.Disk.words c.args.relay.now
