-- Where more is due there, it was put before what the lane had once the connection was let go.
use Rattle.relay_next_hops.proofs.LeaveLemmas.{leaves_same}
use Rattle.relay_next_hops.proofs.ending.finish.Goals as goal

pub returns-in-Ended-clause-next : goal.returns-in-Ended-clause-next
returns-in-Ended-clause-next g c = λ outbox noted is due. (c.end_well.new.lanes, c.go_on.ensures.more due)

pub returns-in-Stays-clause-leaves : goal.returns-in-Stays-clause-leaves
returns-in-Stays-clause-leaves g c = leaves_same g.D.Disk.honest g.D.Disk.words c.args.relay.now

pub returns-in-Ended-clause-leaves : goal.returns-in-Ended-clause-leaves
returns-in-Ended-clause-leaves g c = leaves_same g.D.Disk.honest g.D.Disk.words c.args.relay.now

pub returns-in-TurnedAway-clause-leaves : goal.returns-in-TurnedAway-clause-leaves
returns-in-TurnedAway-clause-leaves g c = leaves_same g.D.Disk.honest g.D.Disk.words c.args.relay.now

pub returns-in-Lost-Refused-clause-leaves : goal.returns-in-Lost-Refused-clause-leaves
returns-in-Lost-Refused-clause-leaves g c = leaves_same g.D.Disk.honest g.D.Disk.words c.args.relay.now

pub returns-clause-leaves : goal.returns-clause-leaves
returns-clause-leaves g c = leaves_same g.D.Disk.honest g.D.Disk.words c.args.relay.now
