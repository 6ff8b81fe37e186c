-- What a call of the node does to the link of an attempt.
use Rattle.std.proofs.Common.{rules, ◌≡◌, ◌∙◌, Err, append-nil, sym, ap, subst, []}
use Rattle.std.specs.Io.KnownBytes.{Appends}
use Rattle.relay_links.specs.Push.{HasFailed, LeavesRecords}
use Rattle.relay_links.proofs.PushLemmas.{answered_end, answered_on, gone_by_fault, grown_by, left_by_fault, refuses_octets, same_by, same_fault, tells_here}
use Rattle.relay_links.proofs.push.answer.Goals as goal

pub returns-in-Err-clause-goes : goal.returns-in-Err-clause-goes
returns-in-Err-clause-goes g c = λ start left h.
    let tells = tells_here g.D.Disk.honest g.D.Disk.words start c.args.now c.args.attempt left _ _ [] c.args.node.now h in
    subst (HasFailed g.D.Disk.honest g.D.Disk.words start c.args.now left (g.W.Write.contents c.args.writer.now) c.reply.new.self.records) (sym c.link_fault.ensures)
    (refuses_octets g.D.Disk.honest g.D.Disk.words start c.args.now c.args.attempt left _ c.args.octets.now c.args.node.now c.reply.new.self c.in-Err.fault h (c.in-Err.ensures.refused.refused h.keeps.live)
    (λ e. c.in-Err.ensures.cut start.changes _ h.keeps tells (ap (λ fault. Err fault) e))
    (λ e. c.in-Err.ensures.full start.changes _ h.keeps tells (ap (λ fault. Err fault) e))
    (λ e. (c.in-Err.ensures.refused.unknown.0 (ap (λ fault. Err fault) e)).1))

pub returns-in-Err-clause-gone : goal.returns-in-Err-clause-gone
returns-in-Err-clause-gone g c =
    gone_by_fault g.D.Disk.words c.args.attempt c.args.node.now c.reply.new.self c.in-Err.fault c.in-Err.ensures.refused.refused (λ e. (c.in-Err.ensures.refused.stopped e).1)
    (λ e. (c.in-Err.ensures.refused.unknown.0 (ap (λ fault. Err fault) e)).1)

pub returns-in-Ok-send_last-clause-goes : goal.returns-in-Ok-send_last-clause-goes
returns-in-Ok-send_last-clause-goes g c = λ start left h.
    let tells = tells_here g.D.Disk.honest g.D.Disk.words start c.args.now c.args.attempt left _ _ [] c.args.node.now h in
    let r = c.in-Ok.ensures.replies start.changes _ h.keeps tells in
    let text : c.as_slice.result.now ≡ c.in-Ok.replied.out.items = search rules in
    let wrote = subst (Appends (g.W.Write.contents c.args.writer.now) (g.W.Write.contents c.send_last.new.writer)) text c.in-Ok-send_last.ensures.ok in
    answered_end g.D.Disk.honest g.D.Disk.words start c.args.now c.args.attempt left _ _ c.args.octets.now c.args.node.now c.reply.new.self c.in-Ok.replied h r c.in-Ok.replied.out.items [] (sym (append-nil c.in-Ok.replied.out.items)) wrote _ c.in-Some.is

pub returns-in-Some-clause-goes : goal.returns-in-Some-clause-goes
returns-in-Some-clause-goes g c = λ start left h.
    let tells = tells_here g.D.Disk.honest g.D.Disk.words start c.args.now c.args.attempt left _ _ [] c.args.node.now h in
    let r = c.in-Ok.ensures.replies start.changes _ h.keeps tells in
    let text : c.as_slice.result.now ≡ c.in-Ok.replied.out.items = search rules in
    let sent = c.in-Err-send_last.ensures.err in (
      sent.1,
      sent.3,
      answered_end g.D.Disk.honest g.D.Disk.words start c.args.now c.args.attempt left _ _ c.args.octets.now c.args.node.now c.reply.new.self c.in-Ok.replied h r sent.0 sent.1 (sym text ∙ sent.2) sent.4 _ c.in-Some.is,
    )

pub returns-in-Ok-send-clause-goes : goal.returns-in-Ok-send-clause-goes
returns-in-Ok-send-clause-goes g c = λ start left h.
    let tells = tells_here g.D.Disk.honest g.D.Disk.words start c.args.now c.args.attempt left _ _ [] c.args.node.now h in
    let r = c.in-Ok.ensures.replies start.changes _ h.keeps tells in
    let text : c.as_slice-in-None.result.now ≡ c.in-Ok.replied.out.items = search rules in
    let wrote = subst (Appends (g.W.Write.contents c.args.writer.now) (g.W.Write.contents c.send.new.writer)) text c.in-Ok-send.ensures.ok in
    answered_on g.D.Disk.honest g.D.Disk.words start c.args.now c.args.attempt left _ _ c.args.octets.now c.args.node.now c.reply.new.self c.in-Ok.replied h r c.in-Ok.replied.out.items [] (sym (append-nil c.in-Ok.replied.out.items)) wrote c.in-None.is c.in-Ok.ensures.rest.1

pub returns-clause-goes : goal.returns-clause-goes
returns-clause-goes g c = λ start left h.
    let tells = tells_here g.D.Disk.honest g.D.Disk.words start c.args.now c.args.attempt left _ _ [] c.args.node.now h in
    let r = c.in-Ok.ensures.replies start.changes _ h.keeps tells in
    let text : c.as_slice-in-None.result.now ≡ c.in-Ok.replied.out.items = search rules in
    let sent = c.in-Err-send.ensures.err in (
      [],
      sent.1,
      answered_on g.D.Disk.honest g.D.Disk.words start c.args.now c.args.attempt left _ _ c.args.octets.now c.args.node.now c.reply.new.self c.in-Ok.replied h r sent.0 sent.1 (sym text ∙ sent.2) sent.3 c.in-None.is c.in-Ok.ensures.rest.1,
    )

pub returns-in-Err-clause-moves : goal.returns-in-Err-clause-moves
returns-in-Err-clause-moves g c =
    subst (LeavesRecords g.D.Disk.words c.args.node.now c.reply.new.self) (sym c.link_fault.ensures)
    (left_by_fault g.D.Disk.words c.args.attempt c.args.node.now c.reply.new.self c.in-Err.fault c.in-Err.ensures.refused.refused
    (λ e. (same_fault c.in-Err.fault _ (c.in-Err.ensures.refused.stopped e).0, (c.in-Err.ensures.refused.stopped e).1)))

pub returns-in-Ok-send_last-clause-moves : goal.returns-in-Ok-send_last-clause-moves
returns-in-Ok-send_last-clause-moves g c =
    grown_by g.D.Disk.words c.args.now c.args.attempt c.args.node.now c.reply.new.self c.in-Ok.replied.change _ c.in-Some.is c.in-Ok.ensures.used.makes

pub returns-in-Some-clause-moves : goal.returns-in-Some-clause-moves
returns-in-Some-clause-moves g c =
    grown_by g.D.Disk.words c.args.now c.args.attempt c.args.node.now c.reply.new.self c.in-Ok.replied.change _ c.in-Some.is c.in-Ok.ensures.used.makes

pub returns-in-Ok-send-clause-moves : goal.returns-in-Ok-send-clause-moves
returns-in-Ok-send-clause-moves g c =
    same_by g.D.Disk.words c.args.now c.args.attempt c.args.node.now c.reply.new.self c.in-Ok.replied.change c.in-None.is c.in-Ok.ensures.used.makes

pub returns-clause-moves : goal.returns-clause-moves
returns-clause-moves g c =
    same_by g.D.Disk.words c.args.now c.args.attempt c.args.node.now c.reply.new.self c.in-Ok.replied.change c.in-None.is c.in-Ok.ensures.used.makes
