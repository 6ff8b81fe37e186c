-- The deadline of one client more counts.
use Rattle.std.proofs.Common.{◌≡◌, ◌≢◌, min, None, Some, sym, ap, ◌∙◌}
use Rattle.relay_slots.specs.Slots.{slot_at}
use Rattle.relay_connections.specs.Sessions.{cut_tick, deadline_of, ended_by}
use Rattle.relay_connections.proofs.DeadlineLemmas.{so_far_all, so_far_none, so_far_nothing, so_far_some}
use Rattle.relay_connections.proofs.LeftLemmas.{stands_there}
use Rattle.relay_connections.proofs.clients.Clients.next_deadline.Goals as goal
use Rattle.relay_connections.proofs.clients.Clients.next_deadline.Goals.{in-Some, in_default}

pub loop-slot-init : goal.loop-slot-init
loop-slot-init g c = so_far_nothing (cut_tick c.args.self.now) c.args.otherwise c.args.self.now.clients

pub loop-slot-preserved : goal.loop-slot-preserved
loop-slot-preserved g c =
    let self = c.args.self.now in
    let number = c.loop-slot.slot-index in
    let there = sym (c.standing-slot-items.ensures.slots number) ∙ stands_there c.standing-slot-items.result.now number c.slot-item.result c.loop-slot-test.true c.slot-item.is in
    elim c.match-slot.branch [
      | in-Some w ↦
          let is : c.match-slot.next ≡ min c.loop-slot.next (cut_tick self w.in-Some.client) =
          w.next-is ∙ w.min-next.ensures ∙ ap (λ tick. min c.loop-slot.next tick) (w.cut_deadline.ensures ∙ ap (λ client. ended_by self.retires_at (deadline_of self.is_crowded client)) w.deref.ensures) in
          so_far_some (cut_tick self) c.args.otherwise self.clients number c.loop-slot.next c.match-slot.next w.in-Some.client (there ∙ w.in-Some.is) is c.loop-slot.invariant
      | in_default w ↦
          so_far_none (cut_tick self) c.args.otherwise self.clients number c.loop-slot.next c.match-slot.next
          (λ client found. w.in_default.not-Some client (sym there ∙ found)) w.next-is c.loop-slot.invariant
    ]

pub returns-clause-next : goal.returns-clause-next
returns-clause-next g c =
    so_far_all (cut_tick c.args.self.now) c.args.otherwise c.standing-slot-items.result.now c.args.self.now.clients c.loop-slot.slot-index c.loop-slot.next c.standing-slot-items.ensures.slots c.loop-slot-test.false c.loop-slot.invariant
