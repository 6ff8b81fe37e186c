-- What was heard is answered.
use Rattle.std.proofs.Common.{◌≡◌, [], List, ℕ, rules, sym, ◌∙◌, subst, drop}
use Rattle.std.specs.Io.KnownBytes.{Appends}
use Rattle.relay_hub.specs.Link.{HasBegun, HasSaid}
use Rattle.relay_hub.proofs.LinkLemmas.{cut_off, gone_by, goes_on, sent}
use Rattle.relay_hub.proofs.link.answer.Goals as goal

pub returns-in_err-send-clause-goes_on : goal.returns-in_err-send-clause-goes_on
returns-in_err-send-clause-goes_on g c = λ start left h.
    let none : c.new-out.result.items ≡ [] = search rules in
    let before = subst (λ (l : List ℕ). HasSaid g.J.Opening.has_answered c.args.terms.now.config.now c.args.terms.now.peer c.args.terms.now.at start c.args.session.now left (g.W.Write.contents c.args.writer.now) (drop c.args.used.now c.args.octets.now) l c.args.pass.now) (sym none) h in
    let said = c.in_ok-is_last.ensures.hears start left (g.W.Write.contents c.args.writer.now) before in
    let text : c.as_slice.result.now ≡ c.hear.new.out.items = search rules in
    let part = c.in_err-send.ensures.err in
    let begun = cut_off g.J.Opening.has_answered c.args.terms.now.config.now c.args.terms.now.peer c.args.terms.now.at start c.hear.new.session left (g.W.Write.contents c.args.writer.now) (g.W.Write.contents c.send.new.writer) (drop c.hear.new.used c.args.octets.now) c.hear.new.out.items c.hear.new.pass said part.0 part.1 (sym text ∙ part.2) part.3 in
    gone_by g.J.Opening.has_answered c.args.terms.now.config.now c.args.terms.now.peer c.args.terms.now.at start c.hear.new.session left (g.W.Write.contents c.send.new.writer) (drop c.hear.new.used c.args.octets.now) c.hear.new.pass _ _ c.from_residual-in_err-send.ensures.1
    (subst (HasBegun g.J.Opening.has_answered c.args.terms.now.config.now c.args.terms.now.peer c.args.terms.now.at start left (g.W.Write.contents c.send.new.writer) c.hear.new.pass) (sym c.in_err-send.ensures.output) begun)

pub returns-clause-goes_on : goal.returns-clause-goes_on
returns-clause-goes_on g c = λ start left h.
    let none : c.new-out.result.items ≡ [] = search rules in
    let before = subst (λ (l : List ℕ). HasSaid g.J.Opening.has_answered c.args.terms.now.config.now c.args.terms.now.peer c.args.terms.now.at start c.args.session.now left (g.W.Write.contents c.args.writer.now) (drop c.args.used.now c.args.octets.now) l c.args.pass.now) (sym none) h in
    let said = c.in_ok-is_last.ensures.hears start left (g.W.Write.contents c.args.writer.now) before in
    let text : c.as_slice.result.now ≡ c.hear.new.out.items = search rules in
    let wrote = subst (Appends (g.W.Write.contents c.args.writer.now) (g.W.Write.contents c.send.new.writer)) text c.in_ok-send.ensures.ok in
    let history = c.in_ok-is_last.ensures.history in
    goes_on g.J.Opening.has_answered c.args.terms.now.config.now c.args.terms.now.peer c.args.terms.now.at start c.hear.new.session left (g.W.Write.contents c.send.new.writer) (drop c.hear.new.used c.args.octets.now) c.hear.new.pass c.in_ok-is_last.is_last
    (sent g.J.Opening.has_answered c.args.terms.now.config.now c.args.terms.now.peer c.args.terms.now.at start c.hear.new.session left (g.W.Write.contents c.args.writer.now) (g.W.Write.contents c.send.new.writer) (drop c.hear.new.used c.args.octets.now) c.hear.new.out.items c.hear.new.pass said wrote)
    history.1 history.0.1.settled
