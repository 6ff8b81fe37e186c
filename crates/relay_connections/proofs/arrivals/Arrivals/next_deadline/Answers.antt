-- The deadline of one connection more counts.
use Rattle.std.proofs.Common.{◌≡◌, ◌⊎◌, ℕ, min, Some, sym, ap, ◌∙◌, subst, arith}
use Rattle.relay_slots.specs.Slots.{slot_at}
use Rattle.relay_connections.specs.Arrivals.{IsDueAt, Within}
use Rattle.relay_connections.proofs.ArrivalLemmas.{due_more, within_more, within_none}
use Rattle.relay_connections.proofs.LeftLemmas.{stands_there}
use Rattle.relay_connections.proofs.arrivals.Arrivals.next_deadline.Goals as goal
use Rattle.relay_connections.proofs.arrivals.Arrivals.next_deadline.Goals.{in-Some, in_default}

pub loop-slot-preserved : goal.loop-slot-preserved
loop-slot-preserved g c =
    let arrivals = c.args.self.now.arrivals in
    let number = c.loop-slot.slot-index in
    let i = c.loop-slot.invariant in
    let there = sym (c.standing-slot-items.ensures.slots number) ∙ stands_there c.standing-slot-items.result.now number c.slot-item.result c.loop-slot-test.true c.slot-item.is in
    elim c.match-slot.branch [
      | in-Some w ↦
          let at : slot_at arrivals number ≡ Some w.in-Some.arrival = there ∙ w.in-Some.is in
          let is : c.match-slot.next ≡ min c.loop-slot.next w.in-Some.arrival.value.deadline =
          w.next-is ∙ w.min-next.ensures ∙ ap (λ arrival. min c.loop-slot.next arrival.deadline) w.deref.ensures in
          record {
            within = omega (arith, i.within, is);
            one = due_more arrivals c.args.otherwise c.loop-slot.next c.match-slot.next number w.in-Some.arrival at is i.one;
            each = within_more arrivals c.loop-slot.next c.match-slot.next number (omega (arith, is)) i.each (subst (Within c.match-slot.next) (sym at) (omega (arith, is)));
          }
      | in_default w ↦
          record {
            within = omega (arith, i.within, w.next-is);
            one = subst (λ (next : ℕ). (next ≡ c.args.otherwise) ⊎ IsDueAt next arrivals) (sym w.next-is) i.one;
            each = within_more arrivals c.loop-slot.next c.match-slot.next number (omega (arith, w.next-is)) i.each (subst (Within c.match-slot.next) (sym there) (within_none c.match-slot.next c.slot-item.result w.in_default.not-Some));
          }
    ]
