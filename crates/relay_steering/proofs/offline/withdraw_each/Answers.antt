-- The next message has its outcome, or it failed.
use Rattle.std.proofs.Common.{◌≡◌, ◌∷◌, [], ◌++◌, List, length, length-append, ap, ◌∙◌, arith}
use Rattle.std.proofs.lemmas.Result.{err_from_is_err_and}
use Rattle.relay_steering.specs.declared.offline.Outcome.{Outcome}
use Rattle.relay_steering.proofs.WithdrawalLemmas.{fails_there, goes_on}
use Rattle.relay_steering.proofs.offline.withdraw_each.Goals as goal

pub loop-selected-preserved : goal.loop-selected-preserved
loop-selected-preserved g c =
    let i = c.loop-selected.invariant in
    let more : length c.push_reserved.new.self.items ≡ length (c.loop-selected.outcomes.items ++ c.in_ok-withdraw.field-0 ∷ []) =
    ap (λ (outcomes : List Outcome). length outcomes) c.push_reserved.ensures.items in
    record {
      have =
          goes_on g.D.Disk.honest g.D.Disk.words c.args.now c.args.withdrawal c.args.messages.now c.loop-selected.selected-index c.loop-selected.outcomes.items
          c.push_reserved.new.self.items c.selected-item.result c.in_ok-withdraw.field-0 c.args.node.now c.loop-selected.node c.withdraw.new.node
          c.loop-selected-test.true c.selected-item.is c.push_reserved.ensures.items i.have c.in_ok-withdraw.ensures.has;
      count = omega (arith, more, length-append c.loop-selected.outcomes.items (c.in_ok-withdraw.field-0 ∷ []), i.count);
      room = c.push_reserved.ensures.capacity ∙ i.room;
    }

pub returns-in_err-withdraw-clause-failed : goal.returns-in_err-withdraw-clause-failed
returns-in_err-withdraw-clause-failed g c =
    let p = err_from_is_err_and c.from_residual.result c.from_residual.ensures.1 in
    rw (p.1, p.2) (fails_there g.D.Disk.honest g.D.Disk.words c.args.now c.args.withdrawal c.args.messages.now c.loop-selected.selected-index
    c.loop-selected.outcomes.items c.selected-item.result c.in_err-withdraw.field-0.0 c.args.node.now c.loop-selected.node c.withdraw.new.node
    c.loop-selected-test.true c.selected-item.is c.loop-selected.invariant.have c.in_err-withdraw.ensures.failed)
