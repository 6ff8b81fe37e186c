-- No overdue task is lost.
use Rattle.std.proofs.Common.{inl, inr, refl, sym, ◌∙◌}
use Rattle.relay_next_hops.proofs.LeaveLemmas.{leaves_same}
use Rattle.relay_next_hops.proofs.TaskLemmas.{none_left_lane, out_settles}
use Rattle.relay_next_hops.proofs.overdue.lose_overdue.Goals as goal

pub returns-then-not-is_held-clause-leaves : goal.returns-then-not-is_held-clause-leaves
returns-then-not-is_held-clause-leaves g c = leaves_same g.D.Disk.honest g.D.Disk.words c.args.relay.now

pub returns-in_default-clause-leaves : goal.returns-in_default-clause-leaves
returns-in_default-clause-leaves g c = leaves_same g.D.Disk.honest g.D.Disk.words c.args.relay.now

pub returns-then-is_kept-clause-leaves : goal.returns-then-is_kept-clause-leaves
returns-then-is_kept-clause-leaves g c = leaves_same g.D.Disk.honest g.D.Disk.words c.args.relay.now

pub returns-in_default-aim_of-clause-leaves : goal.returns-in_default-aim_of-clause-leaves
returns-in_default-aim_of-clause-leaves g c = leaves_same g.D.Disk.honest g.D.Disk.words c.args.relay.now

-- No task leaves its lane, or one that a postmaster holds, that has no address, or that is lost.
pub returns-then-not-is_held-clause-tasks : goal.returns-then-not-is_held-clause-tasks
returns-then-not-is_held-clause-tasks g c = λ lane task there. inl there

pub returns-in_default-clause-tasks : goal.returns-in_default-clause-tasks
returns-in_default-clause-tasks g c = λ lane task there. inl (none_left_lane c.args.lane c.args.lanes.now c.next_overdue.new.lanes
    c.in_default.ensures.only.tasks (c.in_default.ensures.none refl).tasks lane task there)

pub returns-then-is_kept-clause-tasks : goal.returns-then-is_kept-clause-tasks
returns-then-is_kept-clause-tasks g c =
    out_settles g.D.Disk.honest g.D.Disk.words c.args.now.now.moment c.args.lane c.in-Some.task c.args.lanes.now c.next_overdue.new.lanes c.args.relay.now c.args.relay.now
    c.in-Some.ensures.only c.in-Some.ensures.taken (inr (inr (inr (inl (sym c.is_kept.ensures ∙ c.if-is_kept.true)))))

pub returns-in_default-aim_of-clause-tasks : goal.returns-in_default-aim_of-clause-tasks
returns-in_default-aim_of-clause-tasks g c =
    out_settles g.D.Disk.honest g.D.Disk.words c.args.now.now.moment c.args.lane c.in-Some.task c.args.lanes.now c.next_overdue.new.lanes c.args.relay.now c.args.relay.now
    c.in-Some.ensures.only c.in-Some.ensures.taken (inr (inr (inr (inr (inl c.in_default-aim_of.ensures)))))

pub returns-clause-tasks : goal.returns-clause-tasks
returns-clause-tasks g c =
    out_settles g.D.Disk.honest g.D.Disk.words c.args.now.now.moment c.args.lane c.in-Some.task c.args.lanes.now c.next_overdue.new.lanes c.args.relay.now c.lose_held.new.relay
    c.in-Some.ensures.only c.in-Some.ensures.taken (inr (inr (inr (inr (inr (record {
      before = c.args.relay.now;
      after = c.lose_held.new.relay;
      first = leaves_same g.D.Disk.honest g.D.Disk.words c.args.relay.now;
      lost = record {
        delivery = c.delivery_of-delivery.result;
        of_task = record { message = c.delivery_of-delivery.ensures.1; name = c.delivery_of-delivery.ensures.2; none = c.delivery_of-delivery.ensures.3 };
        lost = c.in_ok-lose_held.ensures.lost;
      };
      meanwhile = c.in_ok-lose_held.ensures.leaves;
      last = leaves_same g.D.Disk.honest g.D.Disk.words c.lose_held.new.relay;
    }))))))
