-- Out of memory, the relay stays as it is.
use Rattle.relay_next_hops.proofs.LeaveLemmas.{leaves_same}
use Rattle.relay_next_hops.proofs.giving_up.end_first.Goals as goal

pub returns-in-Err-clause-leaves : goal.returns-in-Err-clause-leaves
returns-in-Err-clause-leaves g c = leaves_same g.D.Disk.honest g.D.Disk.words c.args.relay.now
