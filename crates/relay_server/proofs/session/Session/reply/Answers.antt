-- The answer ends the turn of the text.
use Rattle.std.proofs.Common.{◌≡◌, ◌++◌, sym, ap, ◌∙◌}
use Rattle.relay_lines.specs.Reply.{reply_text}
use Rattle.relay_server.specs.Dialogue.{row_of_answer}
use Rattle.relay_server.specs.Reply.{reply_of}
use Rattle.relay_server.specs.declared.server.Server.{Server}
use Rattle.relay_server.proofs.StandsLemmas.{answered}
use Rattle.std.proofs.lemmas.Result.{IfOk-from_err}
use Rattle.relay_server.proofs.session.Session.reply.Goals as goal

pub returns-clause-answered : goal.returns-clause-answered
returns-clause-answered c = λ setup said stands.
    let old = c.args.self.now in
    let before = c.args.out.now.items in
    let row = row_of_answer c.args.answer in
    let left = c.leave.ensures.same in
    let entered = c.enter.ensures.same in
    let here : c.write.new.out.items ≡ before ++ reply_text (reply_of c.leave.new.self.server.host row) = cc (c.in_ok-write.ensures.ok) in
    let written = here ∙ ap (λ (server : Server). before ++ reply_text (reply_of server.host row)) left.0 in
    answered setup old _ said c.in-Offering.transaction c.in-Offering.field-1 c.args.answer before c.write.new.out.items stands (sym c.leave.ensures.stage ∙ c.in-Offering.is)
    (entered.0 ∙ left.0) (entered.1 ∙ left.1) (rw c.into_client.ensures at c.enter.ensures.stage) written

pub returns-in_err-write-clause-answered : goal.returns-in_err-write-clause-answered
returns-in_err-write-clause-answered c = IfOk-from_err c.from_residual.result _ c.from_residual.ensures.0

pub returns-in_err-write-clause-settled : goal.returns-in_err-write-clause-settled
returns-in_err-write-clause-settled c = IfOk-from_err c.from_residual.result _ c.from_residual.ensures.0

pub returns-in_err-write-clause-next : goal.returns-in_err-write-clause-next
returns-in_err-write-clause-next c = IfOk-from_err c.from_residual.result _ c.from_residual.ensures.0
