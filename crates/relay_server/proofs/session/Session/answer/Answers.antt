-- The reply is all that is put out.
use Rattle.std.proofs.Common.{◌≡◌, [], rules}
use Rattle.relay_server.proofs.StandsLemmas.{answer_is_said}
use Rattle.std.proofs.lemmas.Result.{IfOk-from_err}
use Rattle.relay_server.proofs.session.Session.answer.Goals as goal

pub returns-clause-stands : goal.returns-clause-stands
returns-clause-stands c = λ setup said stands.
    let none : c.new-out.result.items ≡ [] = search rules in
    answer_is_said setup said c.reply.new.self c.args.answer _ c.reply.new.out.items none (c.in_ok-reply.ensures.answered setup said stands)

pub returns-in_err-reply-clause-stands : goal.returns-in_err-reply-clause-stands
returns-in_err-reply-clause-stands c = IfOk-from_err c.from_residual.result _ c.from_residual.ensures.0

pub returns-in_err-reply-clause-settled : goal.returns-in_err-reply-clause-settled
returns-in_err-reply-clause-settled c = IfOk-from_err c.from_residual.result _ c.from_residual.ensures.0
