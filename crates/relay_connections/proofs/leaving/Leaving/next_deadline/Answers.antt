-- The deadline of one connection more counts.
use Rattle.std.proofs.Common.{◌≡◌, min, Some, sym, ap, ◌∙◌}
use Rattle.relay_connections.specs.Leaving.{closes_at}
use Rattle.relay_connections.proofs.DeadlineLemmas.{so_far_all, so_far_none, so_far_nothing, so_far_some}
use Rattle.relay_connections.proofs.LeftLemmas.{stands_there}
use Rattle.relay_connections.proofs.leaving.Leaving.next_deadline.Goals as goal
use Rattle.relay_connections.proofs.leaving.Leaving.next_deadline.Goals.{in-Some, in_default}

pub loop-slot-init : goal.loop-slot-init
loop-slot-init g c = so_far_nothing closes_at c.args.otherwise c.args.self.now.leavers

pub loop-slot-preserved : goal.loop-slot-preserved
loop-slot-preserved g c =
    let leavers = c.args.self.now.leavers in
    let number = c.loop-slot.slot-index in
    let there = sym (c.standing-slot-items.ensures.slots number) ∙ stands_there c.standing-slot-items.result.now number c.slot-item.result c.loop-slot-test.true c.slot-item.is in
    elim c.match-slot.branch [
      | in-Some w ↦
          let is : c.match-slot.next ≡ min c.loop-slot.next w.in-Some.leaver.value.deadline =
          w.next-is ∙ w.min-next.ensures ∙ ap (λ leaver. min c.loop-slot.next leaver.deadline) w.deref.ensures in
          so_far_some closes_at c.args.otherwise leavers number c.loop-slot.next c.match-slot.next w.in-Some.leaver (there ∙ w.in-Some.is) is c.loop-slot.invariant
      | in_default w ↦
          so_far_none closes_at c.args.otherwise leavers number c.loop-slot.next c.match-slot.next
          (λ leaver found. w.in_default.not-Some leaver (sym there ∙ found)) w.next-is c.loop-slot.invariant
    ]

pub returns-clause-next : goal.returns-clause-next
returns-clause-next g c =
    so_far_all closes_at c.args.otherwise c.standing-slot-items.result.now c.args.self.now.leavers c.loop-slot.slot-index c.loop-slot.next c.standing-slot-items.ensures.slots c.loop-slot-test.false c.loop-slot.invariant
