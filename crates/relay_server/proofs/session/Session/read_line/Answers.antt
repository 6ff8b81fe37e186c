-- A line that stands whole in the piece is answered, or the one that ends in the buffer.
use Rattle.std.proofs.Common.{◌≡◌, ◌≤◌, ◌++◌, List, [], ℕ, length, take, sym, ap, ◌∙◌, subst, arith}
use Rattle.relay_octets.specs.Line.{crlf}
use Rattle.relay_lines.specs.HeldLine.{Holds}
use Rattle.relay_server.specs.Machine.{Moves}
use Rattle.relay_server.specs.Setup.{setup_of}
use Rattle.relay_server.specs.State.{Command}
use Rattle.relay_server.specs.Values.{command_state_of}
use Rattle.relay_server.specs.declared.stage.Stage.{Stage}
use Rattle.relay_server.proofs.StandsLemmas.{given_line, holds_nothing, line_is_unit, steps_by, whole_line}
use Rattle.std.proofs.lemmas.Result.{IfOk-from_err}
use Rattle.relay_server.proofs.session.Session.read_line.Goals as goal

pub returns-clause-steps : goal.returns-clause-steps
returns-clause-steps c = λ octets holds.
    let setup = setup_of c.args.self.now.server c.args.table.now in
    let state = Command (command_state_of c.args.state) in
    let before = c.args.out.now.items in
    let after = c.answer_line.new.out.items in
    let end = c.in-Whole.end in
    let piece = c.args.rest.now in
    let nothing = holds_nothing c.args.self.now.line octets holds (c.is_empty.ensures.0 c.if-is_empty.true) in
    let whole = c.in-Whole.ensures in
    let line = whole.0 in
    let parts = whole_line piece line whole.1 end whole.2 whole.3 in
    let end_is = whole.3 in
    let within = whole.4 in
    let short : length line ≤ 2046 = omega (arith, end_is, within) in
    let moves = c.in_ok-stage.ensures.moves line whole.2.first (short, parts.0) in
    let unit_is : octets ++ take end piece ≡ line ++ crlf = ap (λ o. o ++ take end piece) nothing ∙ parts.1 in
    let empty : Holds c.enter.new.self.line [] = rw c.enter.ensures.same.1 (rw nothing at holds) in
    steps_by setup state c.enter.new.self (octets ++ take end piece) before after
    (subst (λ (unit : List ℕ). Moves setup state c.enter.new.self.stage unit before after) (sym unit_is)
    (subst (λ (stage : Stage). Moves setup state stage (line ++ crlf) before after) (sym c.enter.ensures.stage) moves)) empty

pub returns-2-clause-steps : goal.returns-2-clause-steps
returns-2-clause-steps c = λ octets holds.
    let setup = setup_of c.args.self.now.server c.args.table.now in
    let state = Command (command_state_of c.args.state) in
    let before = c.args.out.now.items in
    let after = c.answer_line-2.new.out.items in
    let ended = c.in-Some.ensures.taken octets holds in
    let moves = c.in_ok-answer_line.ensures.moves ended.0 ended.1.first (given_line c.feed.new.self ended.0 ended.2) in
    steps_by setup state c.answer_line-2.new.self (octets ++ take c.in-Some.used c.args.rest.now) before after
    (subst (λ (unit : List ℕ). Moves setup state c.answer_line-2.new.self.stage unit before after) (sym (line_is_unit _ _ ended.1)) moves) c.in_ok-answer_line.ensures.line

pub returns-in_err-stage-clause-steps : goal.returns-in_err-stage-clause-steps
returns-in_err-stage-clause-steps c = IfOk-from_err c.from_residual.result _ c.from_residual.ensures.0

pub returns-in_err-stage-clause-within : goal.returns-in_err-stage-clause-within
returns-in_err-stage-clause-within c = IfOk-from_err c.from_residual.result _ c.from_residual.ensures.0

pub returns-in_err-answer_line-clause-steps : goal.returns-in_err-answer_line-clause-steps
returns-in_err-answer_line-clause-steps c = IfOk-from_err c.from_residual-in_err-answer_line.result _ c.from_residual-in_err-answer_line.ensures.0

pub returns-in_err-answer_line-clause-within : goal.returns-in_err-answer_line-clause-within
returns-in_err-answer_line-clause-within c = IfOk-from_err c.from_residual-in_err-answer_line.result _ c.from_residual-in_err-answer_line.ensures.0
