-- Each connection that is passed over lowers it to its own deadline.
use Rattle.std.proofs.Common.{◌≡◌, ◌≤◌, ◌<◌, ℕ, Some, length, refl, sym, subst, ◌∙◌, arith}
use Rattle.std.specs.Prelude.{min}
use Rattle.relay_connections.proofs.Theorems.{same_value, stands_there}
use Rattle.relay_next_hops.specs.declared.hop.Hop.{Hop}
use Rattle.relay_next_hops.proofs.SlotLemmas.{some_within}
use Rattle.relay_next_hops.proofs.WaitingLemmas.{least_more}
use Rattle.relay_next_hops.proofs.hops.Hops.next_deadline.Goals as goal
use Rattle.relay_next_hops.proofs.hops.Hops.next_deadline.Goals.{in-Some, in_default}

pub loop-slot-init : goal.loop-slot-init
loop-slot-init g c = (omega arith, λ number below hop there. absurd (omega (arith, below)))

pub loop-slot-preserved : goal.loop-slot-preserved
loop-slot-preserved g c =
    let standing = c.standing-slot-items.result.now in
    let index = c.loop-slot.slot-index in
    let there = stands_there standing index c.slot-item.result c.loop-slot-test.true c.slot-item.is in
    elim c.match-slot.branch [
      | in-Some w ↦ (
        omega (arith, w.next-is, w.min-next.ensures, c.loop-slot.invariant.0),
        least_more c.args.self.now.hops index c.loop-slot.next c.match-slot.next (omega (arith, w.next-is, w.min-next.ensures)) c.loop-slot.invariant.1 (λ hop is.
            let same = same_value w.in-Some.hop hop (sym w.in-Some.is ∙ sym there ∙ c.standing-slot-items.ensures.slots index ∙ is) in
            subst (λ (it : Hop _). c.match-slot.next ≤ min it.idle_deadline it.answer_deadline) same
            (omega (arith, w.next-is, w.min-next.ensures, w.deadline.ensures))),
      )
      | in_default w ↦ (
        omega (arith, w.next-is, c.loop-slot.invariant.0),
        least_more c.args.self.now.hops index c.loop-slot.next c.match-slot.next (omega (arith, w.next-is)) c.loop-slot.invariant.1 (λ hop is.
            absurd (w.in_default.not-Some hop (sym there ∙ c.standing-slot-items.ensures.slots index ∙ is))),
      )
    ]

pub returns-clause-each : goal.returns-clause-each
returns-clause-each g c = λ number hop there.
    let standing = c.standing-slot-items.result.now in
    let within : number < length standing = some_within standing number hop (c.standing-slot-items.ensures.slots number ∙ there) in
    let over : length standing ≤ c.loop-slot.slot-index = c.loop-slot-test.false in
    c.loop-slot.invariant.1 number (omega (arith, within, over)) hop there
