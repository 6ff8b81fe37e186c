-- What is heard of a piece from its first octet on was said.
use Rattle.std.proofs.Common.{◌≡◌, [], rules}
use Rattle.relay_server.proofs.StandsLemmas.{heard_is_said}
use Rattle.std.proofs.lemmas.Result.{IfOk-from_err}
use Rattle.relay_server.proofs.session.Session.feed.Goals as goal

pub returns-clause-stands : goal.returns-clause-stands
returns-clause-stands c = λ setup said same stands.
    let none : c.new-out.result.items ≡ [] = search rules in
    heard_is_said setup said c.args.self.now c.hear.new.self c.args.piece.now c.hear.new.used _ c.hear.new.out.items none (c.in_ok-next.ensures.hears setup said same stands)

pub returns-in_err-next-clause-stands : goal.returns-in_err-next-clause-stands
returns-in_err-next-clause-stands c = IfOk-from_err c.from_residual.result _ c.from_residual.ensures.0

pub returns-in_err-next-clause-used : goal.returns-in_err-next-clause-used
returns-in_err-next-clause-used c = IfOk-from_err c.from_residual.result _ c.from_residual.ensures.0

pub returns-in_err-next-clause-next : goal.returns-in_err-next-clause-next
returns-in_err-next-clause-next c = IfOk-from_err c.from_residual.result _ c.from_residual.ensures.0
