-- A slot that was passed over counts where its client is at the address.
use Rattle.std.proofs.Common.{sym, ap, ◌∙◌, arith}
use Rattle.relay_connections.specs.Room.{is_at}
use Rattle.relay_connections.specs.Table.{is_such}
use Rattle.relay_connections.proofs.LeftLemmas.{stands_there}
use Rattle.relay_connections.proofs.TableLemmas.{counted_none, counted_one, none_left, same_count}
use Rattle.relay_connections.proofs.clients.Clients.count_at.Goals as goal
use Rattle.relay_connections.proofs.clients.Clients.count_at.Goals.{else-is_at, then-is_at}

pub loop-number-preserved : goal.loop-number-preserved
loop-number-preserved g c =
    let such = is_at c.args.address in
    let slots = c.standing-standing.result.now in
    let number = c.loop-number.number in
    let low = c.loop-number-test.true in
    let there = stands_there slots number c.index-standing-number.result low c.index-standing-number.is in
    let counts = ap (is_such such) there ∙ sym c.is_at.ensures in
    elim c.if-is_at.branch [
      | then-is_at w ↦ (omega (arith, w.count-is, c.loop-number.invariant.0), omega (arith, w.count-is, counted_one such slots number low (counts ∙ w.if-is_at.true), c.loop-number.invariant.1))
      | else-is_at w ↦ (omega (arith, w.count-is, c.loop-number.invariant.0), omega (arith, w.count-is, counted_none such slots number low (counts ∙ w.if-is_at.false), c.loop-number.invariant.1))
    ]

pub returns : goal.returns
returns g c =
    let such = is_at c.args.address in
    let slots = c.standing-standing.result.now in
    none_left such slots c.loop-number.number c.loop-number.count c.loop-number-test.false c.loop-number.invariant.1
    ∙ same_count such slots c.args.self.now.clients c.standing-standing.ensures.slots
