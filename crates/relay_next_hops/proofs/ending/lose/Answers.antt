-- An attempt that hasn't begun is none where its next hop is on hold.
use Rattle.relay_next_hops.proofs.LeaveLemmas.{leaves_same}
use Rattle.relay_next_hops.proofs.ending.lose.Goals as goal

pub returns-then-is_held-clause-leaves : goal.returns-then-is_held-clause-leaves
returns-then-is_held-clause-leaves g c = leaves_same g.D.Disk.honest g.D.Disk.words c.args.relay.now
