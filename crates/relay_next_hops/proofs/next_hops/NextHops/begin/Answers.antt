-- What is given up, and the attempts that begin or are lost, leave clients alone.
use Rattle.std.proofs.Common.{◌∙◌}
use Rattle.relay_connections.proofs.Theorems.{leaves_then}
use Rattle.relay_next_hops.proofs.BeginningLemmas.{begins_from, first_later}
use Rattle.relay_next_hops.proofs.TaskLemmas.{drops_later}
use Rattle.relay_next_hops.proofs.next_hops.NextHops.begin.Goals as goal

pub returns-clause-begins : goal.returns-clause-begins
returns-clause-begins g c = λ opened.
    begins_from c.args.now.now.tick c.args.self.now.starts.paused_until (g.N.Dial.spares c.args.dial.now) (g.N.Dial.spares c.start_tasks.new.dial)
    c.args.self.now.lanes c.give_up_next.new.lanes c.start_tasks.new.lanes c.start_tasks.new.hops.hops
    c.in_ok-gave_up.ensures.tasks.0 (c.in_ok-start_tasks.ensures.whole (c.in_ok-gave_up.ensures.tasks.1 ∙ opened))

pub returns-clause-unroutable : goal.returns-clause-unroutable
returns-clause-unroutable g c = λ message rest is. (
  c.give_up_next.new.relay,
  c.in_ok-gave_up.ensures.leaves,
  first_later g.D.Disk.words c.args.now.now.moment message rest c.args.self.now.lanes.held c.args.relay.now c.give_up_next.new.relay
      c.give_up_next.new.lanes c.start_tasks.new.lanes c.in_ok-gave_up.gave_up c.in_ok-start_tasks.ensures.stale c.in_ok-start_tasks.ensures.unroutable (c.in_ok-gave_up.ensures.first message rest is),
  c.in_ok-start_tasks.ensures.leaves,
)

pub returns-clause-tasks : goal.returns-clause-tasks
returns-clause-tasks g c =
    drops_later g.D.Disk.honest g.D.Disk.words c.args.now.now.moment c.start_tasks.new.hops.hops c.args.self.now.lanes c.give_up_next.new.lanes c.start_tasks.new.lanes
    c.args.relay.now c.give_up_next.new.relay c.start_tasks.new.relay c.in_ok-gave_up.ensures.tasks.0 c.in_ok-gave_up.ensures.leaves c.in_ok-start_tasks.ensures.tasks

pub returns-clause-leaves : goal.returns-clause-leaves
returns-clause-leaves g c = leaves_then g.D.Disk.honest g.D.Disk.words c.args.relay.now c.give_up_next.new.relay c.start_tasks.new.relay c.in_ok-gave_up.ensures.leaves c.in_ok-start_tasks.ensures.leaves
