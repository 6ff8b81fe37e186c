-- A slot that was passed over counts where the next hop of its connection hasn't said anything.
use Rattle.std.proofs.Common.{sym, ap, ◌∙◌, arith}
use Rattle.relay_connections.specs.Table.{is_such}
use Rattle.relay_connections.proofs.Theorems.{counted_none, counted_one, none_left, same_count, stands_there}
use Rattle.relay_next_hops.specs.Counts.{is_unanswered}
use Rattle.relay_next_hops.proofs.hops.Hops.count_unanswered.Goals as goal
use Rattle.relay_next_hops.proofs.hops.Hops.count_unanswered.Goals.{else-is_unanswered, then-is_unanswered}

pub loop-number-preserved : goal.loop-number-preserved
loop-number-preserved g c =
    let such = is_unanswered c.args.lanes.now.paces in
    let slots = c.standing-standing.result.now in
    let number = c.loop-number.number in
    let low = c.loop-number-test.true in
    let there = stands_there slots number c.index-standing-number.result low c.index-standing-number.is in
    let counts = ap (is_such such) there ∙ sym c.is_unanswered.ensures in
    elim c.if-is_unanswered.branch [
      | then-is_unanswered w ↦ (omega (arith, w.count-is, c.loop-number.invariant.0), omega (arith, w.count-is, counted_one such slots number low (counts ∙ w.if-is_unanswered.true), c.loop-number.invariant.1))
      | else-is_unanswered w ↦ (omega (arith, w.count-is, c.loop-number.invariant.0), omega (arith, w.count-is, counted_none such slots number low (counts ∙ w.if-is_unanswered.false), c.loop-number.invariant.1))
    ]

pub returns : goal.returns
returns g c =
    let such = is_unanswered c.args.lanes.now.paces in
    let slots = c.standing-standing.result.now in
    none_left such slots c.loop-number.number c.loop-number.count c.loop-number-test.false c.loop-number.invariant.1
    ∙ same_count such slots c.args.self.now.hops c.standing-standing.ensures.slots
