-- What a call of the node does to a link.
use Rattle.std.proofs.Common.{rules, ◌≡◌, ◌<◌, ◌+◌, ◌++◌, ◌∙◌, ℕ, List, false, Err, refl, sym, ap, subst, drop, length, length-drop, arith, None, Option, Some}
use Rattle.std.proofs.lemmas.List.{drop-drop}
use Rattle.std.proofs.lemmas.Slice.{between_to_end}
use Rattle.std.specs.Io.KnownBytes.{Appends}
use Rattle.relay_node.specs.Node.{CutsTalk, Receives}
use Rattle.relay_links.specs.Link.{LinkGoesOn, HasBegun}
use Rattle.relay_links.proofs.LinkLemmas.{received_on, received_part, refuses, says_here}
use Rattle.relay_links.proofs.serve.answer.Goals as goal

pub returns-in-Err-clause-goes_on : goal.returns-in-Err-clause-goes_on
returns-in-Err-clause-goes_on g c = λ start left h.
    let waiting = drop c.args.used.now c.args.octets.now in
    let piece_is = between_to_end c.args.octets.now c.args.used.now (length c.args.octets.now) (omega arith) in
    let says = says_here g.D.Disk.honest g.D.Disk.words start c.args.now c.args.session left _ waiting c.args.node.now h in
    subst (HasBegun g.D.Disk.honest g.D.Disk.words start c.args.now left (g.W.Write.contents c.args.writer.now) c.receive.new.self.records) (sym c.link_fault.ensures)
    (refuses g.D.Disk.honest g.D.Disk.words start c.args.now c.args.session left _ waiting c.args.node.now c.receive.new.self c.in-Err.fault h (c.in-Err.ensures.refused.refused h.taken.keeps.live)
    (λ e. subst (λ (piece : List ℕ). CutsTalk g.D.Disk.honest g.D.Disk.words c.args.node.now.config (start.changes ++ h.added) start.peer c.args.now h.said piece c.args.node.now.records c.receive.new.self.records) piece_is
    (c.in-Err.ensures.cut (start.changes ++ h.added) start.peer h.said h.taken.keeps says (ap (λ fault. Err fault) e))))

pub returns-in-Ok-send-clause-goes_on : goal.returns-in-Ok-send-clause-goes_on
returns-in-Ok-send-clause-goes_on g c = λ start left h.
    let waiting = drop c.args.used.now c.args.octets.now in
    let piece_is = between_to_end c.args.octets.now c.args.used.now (length c.args.octets.now) (omega arith) in
    let says = says_here g.D.Disk.honest g.D.Disk.words start c.args.now c.args.session left _ waiting c.args.node.now h in
    let r = subst (λ (piece : List ℕ). Receives g.D.Disk.honest g.D.Disk.words c.args.node.now.config (start.changes ++ h.added) start.peer c.args.now c.args.session h.said piece c.args.node.now c.receive.new.self c.in-Ok.received) piece_is
    (c.in-Ok.ensures.receives (start.changes ++ h.added) start.peer h.said h.taken.keeps says) in
    let text : c.as_slice.result.now ≡ c.in-Ok.received.out.items = search rules in
    let wrote = subst (Appends (g.W.Write.contents c.args.writer.now) (g.W.Write.contents c.send.new.writer)) text c.in-Ok-send.ensures.ok in
    subst (λ (l : List ℕ). LinkGoesOn g.D.Disk.honest g.D.Disk.words start c.args.now c.args.session left (g.W.Write.contents c.send.new.writer) l c.receive.new.self c.in-Ok.received.close) (drop-drop c.in-Ok.received.used c.args.used.now c.args.octets.now)
    (received_on g.D.Disk.honest g.D.Disk.words start c.args.now c.args.session left _ _ waiting c.args.node.now c.receive.new.self c.in-Ok.received h r c.in-Ok.ensures.rest.1 wrote)

pub returns-clause-goes_on : goal.returns-clause-goes_on
returns-clause-goes_on g c = λ start left h.
    let waiting = drop c.args.used.now c.args.octets.now in
    let piece_is = between_to_end c.args.octets.now c.args.used.now (length c.args.octets.now) (omega arith) in
    let says = says_here g.D.Disk.honest g.D.Disk.words start c.args.now c.args.session left _ waiting c.args.node.now h in
    let r = subst (λ (piece : List ℕ). Receives g.D.Disk.honest g.D.Disk.words c.args.node.now.config (start.changes ++ h.added) start.peer c.args.now c.args.session h.said piece c.args.node.now c.receive.new.self c.in-Ok.received) piece_is
    (c.in-Ok.ensures.receives (start.changes ++ h.added) start.peer h.said h.taken.keeps says) in
    let text : c.as_slice.result.now ≡ c.in-Ok.received.out.items = search rules in
    let sent = c.in-Err-send.ensures.err in
    subst (HasBegun g.D.Disk.honest g.D.Disk.words start c.args.now left (g.W.Write.contents c.send.new.writer) c.receive.new.self.records) (sym c.in-Err-send.ensures.output)
    (received_part g.D.Disk.honest g.D.Disk.words start c.args.now c.args.session left _ (g.W.Write.contents c.send.new.writer) waiting c.args.node.now c.receive.new.self c.in-Ok.received h r sent.0 sent.1 (sym text ∙ sent.2) sent.3)

pub returns-in-Ok-send-clause-used : goal.returns-in-Ok-send-clause-used
returns-in-Ok-send-clause-used g c =
    let piece_is = between_to_end c.args.octets.now c.args.used.now (length c.args.octets.now) (omega arith) in
    let rest = ap length piece_is ∙ length-drop c.args.used.now c.args.octets.now in
    let within = c.in-Ok.ensures.used.within in
    let room = c.requires in
    (omega (arith, within, rest, room), λ going. by_change c.in-Ok.received.change refl going)
  where
    not_both : (number : ℕ) → Some number ≡ None → ⊥
    not_both number e = cc

    by_change : (change : Option ℕ) → c.in-Ok.received.change ≡ change → c.in-Ok.received.close ≡ false → c.args.used.now < c.args.used.now + c.in-Ok.received.used
    by_change None e going =
        let whole = c.in-Ok.ensures.used.whole e going in
        let piece_is = between_to_end c.args.octets.now c.args.used.now (length c.args.octets.now) (omega arith) in
        let rest = ap length piece_is ∙ length-drop c.args.used.now c.args.octets.now in
        let room = c.requires in
        omega (arith, whole, rest, room)
    by_change (Some number) e going =
        let some : 0 < c.in-Ok.received.used = c.in-Ok.ensures.used.some (λ none. absurd (not_both number (sym e ∙ none))) in
        omega (arith, some)
