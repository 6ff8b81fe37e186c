-- A slot that was passed over counts where its connection goes to the place.
use Rattle.std.proofs.Common.{sym, ap, ◌∙◌, arith}
use Rattle.relay_connections.specs.Leaving.{goes_to}
use Rattle.relay_connections.specs.Table.{is_such}
use Rattle.relay_connections.proofs.LeftLemmas.{stands_there}
use Rattle.relay_connections.proofs.TableLemmas.{counted_none, counted_one, none_left, same_count}
use Rattle.relay_connections.proofs.leaving.Leaving.count_to.Goals as goal
use Rattle.relay_connections.proofs.leaving.Leaving.count_to.Goals.{else-goes_to, then-goes_to}

pub loop-number-preserved : goal.loop-number-preserved
loop-number-preserved g c =
    let such = goes_to c.args.place in
    let slots = c.standing-standing.result.now in
    let number = c.loop-number.number in
    let low = c.loop-number-test.true in
    let there = stands_there slots number c.index-standing-number.result low c.index-standing-number.is in
    let counts = ap (is_such such) there ∙ sym c.goes_to.ensures in
    elim c.if-goes_to.branch [
      | then-goes_to w ↦ (omega (arith, w.count-is, c.loop-number.invariant.0), omega (arith, w.count-is, counted_one such slots number low (counts ∙ w.if-goes_to.true), c.loop-number.invariant.1))
      | else-goes_to w ↦ (omega (arith, w.count-is, c.loop-number.invariant.0), omega (arith, w.count-is, counted_none such slots number low (counts ∙ w.if-goes_to.false), c.loop-number.invariant.1))
    ]

pub returns : goal.returns
returns g c =
    let such = goes_to c.args.place in
    let slots = c.standing-standing.result.now in
    none_left such slots c.loop-number.number c.loop-number.count c.loop-number-test.false c.loop-number.invariant.1
    ∙ same_count such slots c.args.self.now.leavers c.standing-standing.ensures.slots
