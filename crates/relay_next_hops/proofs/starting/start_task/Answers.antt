-- Until a loss is recorded, the relay is not called.
use Rattle.relay_next_hops.proofs.LeaveLemmas.{leaves_same}
use Rattle.relay_next_hops.proofs.TaskLemmas.{same_tasks}
use Rattle.relay_next_hops.proofs.starting.start_task.Goals as goal

pub returns-in_default-clause-leaves : goal.returns-in_default-clause-leaves
returns-in_default-clause-leaves g c = leaves_same g.D.Disk.honest g.D.Disk.words c.args.relay.now

pub returns-in-Ok-clause-leaves : goal.returns-in-Ok-clause-leaves
returns-in-Ok-clause-leaves g c = leaves_same g.D.Disk.honest g.D.Disk.words c.args.relay.now

pub returns-in-Err-clause-leaves : goal.returns-in-Err-clause-leaves
returns-in-Err-clause-leaves g c = leaves_same g.D.Disk.honest g.D.Disk.words c.args.relay.now

-- The other tasks stay in the lane.
pub returns-in-Ok-clause-tasks : goal.returns-in-Ok-clause-tasks
returns-in-Ok-clause-tasks g c = same_tasks c.args.opening.lane c.args.lanes.now c.began.new.self c.began.ensures.tasks
