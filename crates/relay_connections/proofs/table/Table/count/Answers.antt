-- A slot that was passed over counts where something stands in it.
use Rattle.std.proofs.Common.{true, sym, ◌∙◌, arith}
use Rattle.relay_slots.specs.Slots.{slot_at}
use Rattle.relay_connections.proofs.TableLemmas.{counted_none, counted_one, none_left, same_count, such_is_some}
use Rattle.relay_connections.proofs.table.Table.count.Goals as goal
use Rattle.relay_connections.proofs.table.Table.count.Goals.{else-holds, then-holds}

pub loop-number-preserved : goal.loop-number-preserved
loop-number-preserved g c =
    let slots = c.standing-standing.result.now in
    let number = c.loop-number.number in
    let low = c.loop-number-test.true in
    let counts = sym (such_is_some (slot_at slots number)) ∙ sym c.holds.ensures in
    elim c.if-holds.branch [
      | then-holds w ↦ (omega (arith, w.count-is, c.loop-number.invariant.0), omega (arith, w.count-is, counted_one (λ value. true) slots number low (counts ∙ w.if-holds.true), c.loop-number.invariant.1))
      | else-holds w ↦ (omega (arith, w.count-is, c.loop-number.invariant.0), omega (arith, w.count-is, counted_none (λ value. true) slots number low (counts ∙ w.if-holds.false), c.loop-number.invariant.1))
    ]

pub returns : goal.returns
returns g c =
    let slots = c.standing-standing.result.now in
    none_left (λ value. true) slots c.loop-number.number c.loop-number.count c.loop-number-test.false c.loop-number.invariant.1
    ∙ same_count (λ value. true) slots c.args.self.now c.standing-standing.ensures.slots
