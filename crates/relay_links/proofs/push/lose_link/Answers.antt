-- A loss that the node was told of.
use Rattle.std.proofs.Common.{Err, sym, ap, subst}
use Rattle.relay_links.specs.Push.{HasFailed, LeavesRecords}
use Rattle.relay_links.proofs.PushLemmas.{gone_by_fault, left_by_fault, loses, refuses_loss, same_fault, tells_here}
use Rattle.relay_links.proofs.push.lose_link.Goals as goal

pub returns-in-Ok-clause-pushed : goal.returns-in-Ok-clause-pushed
returns-in-Ok-clause-pushed g c = λ start left held waiting unwritten h.
    let tells = tells_here g.D.Disk.honest g.D.Disk.words start c.args.now c.args.attempt left held waiting unwritten c.args.node.now h in
    loses g.D.Disk.honest g.D.Disk.words start c.args.now c.args.attempt left held waiting unwritten c.args.node.now c.lost.new.self _ h (c.in-Ok.ensures.lost start.changes _ h.keeps tells)

pub returns-in-Err-clause-pushed : goal.returns-in-Err-clause-pushed
returns-in-Err-clause-pushed g c = λ start left held waiting unwritten h.
    let tells = tells_here g.D.Disk.honest g.D.Disk.words start c.args.now c.args.attempt left held waiting unwritten c.args.node.now h in
    subst (HasFailed g.D.Disk.honest g.D.Disk.words start c.args.now left held c.lost.new.self.records) (sym c.link_fault.ensures)
    (refuses_loss g.D.Disk.honest g.D.Disk.words start c.args.now c.args.attempt left held waiting unwritten c.args.node.now c.lost.new.self c.in-Err.fault h (c.in-Err.ensures.refused.refused h.keeps.live)
    (λ e. c.in-Err.ensures.cut start.changes _ h.keeps tells (ap (λ fault. Err fault) e))
    (λ e. c.in-Err.ensures.full start.changes _ h.keeps tells (ap (λ fault. Err fault) e))
    (λ e. (c.in-Err.ensures.refused.unknown.0 (ap (λ fault. Err fault) e)).1))

pub returns-in-Err-clause-gone : goal.returns-in-Err-clause-gone
returns-in-Err-clause-gone g c =
    gone_by_fault g.D.Disk.words c.args.attempt c.args.node.now c.lost.new.self c.in-Err.fault c.in-Err.ensures.refused.refused (λ e. (c.in-Err.ensures.refused.stopped e).1)
    (λ e. (c.in-Err.ensures.refused.unknown.0 (ap (λ fault. Err fault) e)).1)

pub returns-in-Err-clause-ends : goal.returns-in-Err-clause-ends
returns-in-Err-clause-ends g c =
    subst (LeavesRecords g.D.Disk.words c.args.node.now c.lost.new.self) (sym c.link_fault.ensures)
    (left_by_fault g.D.Disk.words c.args.attempt c.args.node.now c.lost.new.self c.in-Err.fault c.in-Err.ensures.refused.refused
    (λ e. (same_fault c.in-Err.fault _ (c.in-Err.ensures.refused.stopped e).0, (c.in-Err.ensures.refused.stopped e).1)))

pub returns-in-Ok-clause-ends : goal.returns-in-Ok-clause-ends
returns-in-Ok-clause-ends g c = (_, _, c.in-Ok.ensures.ends.grows)

pub returns-in-Ok-clause-gone : goal.returns-in-Ok-clause-gone
returns-in-Ok-clause-gone g c = λ _. c.in-Ok.ensures.ends.gone
