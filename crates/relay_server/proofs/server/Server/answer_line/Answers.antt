-- A line is answered by its course, or its chunk is awaited.
use Rattle.std.proofs.Common.{◌≡◌, ◌++◌, true, false, subst, ap, ◌∙◌}
use Rattle.relay_octets.specs.Line.{crlf}
use Rattle.relay_lines.specs.Command.{reading_of}
use Rattle.relay_server.specs.ReplyTable.{course_of}
use Rattle.relay_server.specs.Machine.{EndsBy, IsGiven}
use Rattle.relay_server.specs.Setup.{setup_of}
use Rattle.relay_server.specs.State.{Command}
use Rattle.relay_server.specs.Unit.{Asked, asked_of_long}
use Rattle.relay_server.specs.Values.{IsJudged, command_state_of}
use Rattle.relay_server.specs.declared.judge.Judged.TheVariants as judged
use Rattle.relay_server.proofs.SessionLemmas.{gathers_line, if_ok, judged_line, long_asks, long_line, nothing_after, refuses_line}
use Rattle.relay_server.proofs.server.Server.answer_line.Goals as goal

pub returns-then-is_long-clause-moves : goal.returns-then-is_long-clause-moves
returns-then-is_long-clause-moves c =
    let setup = setup_of c.args.self.now c.args.table.now in
    let state = command_state_of c.args.state in
    if_ok _ _ c.answer_long_line.result (λ stage ends. λ line is_line given.
    let long : IsGiven line c.args.text.now true = rw c.if-is_long.true at given in
    let asked : asked_of_long c.args.text.now ≡ asked_of_long line = ap asked_of_long long.1 ∙ long_asks line in
    long_line setup state line stage c.args.out.now.items c.answer_long_line.new.out.items is_line long.0
    (subst (λ (asked : Asked). EndsBy setup (course_of setup asked state) stage c.args.out.now.items c.answer_long_line.new.out.items) asked (ends c.args.table.now)))
    c.answer_long_line.ensures.ends

pub returns-in-Replied-clause-moves : goal.returns-in-Replied-clause-moves
returns-in-Replied-clause-moves c =
    let setup = setup_of c.args.self.now c.args.table.now in
    let state = command_state_of c.args.state in
    let row = c.in-Replied.row in
    let next = c.in-Replied.next in
    let text = c.args.text.now in
    let is : IsJudged setup (reading_of text) state (judged.Replied row next) = rw c.in-Replied.is at c.in_ok-row.ensures in
    if_ok _ _ c.reply.result (λ stage enters. λ line is_line given.
    let short : IsGiven line text false = rw c.if-is_long.false at given in
    let here : IsJudged setup (reading_of line) state (judged.Replied row next) = rw short.1 at is in
    judged_line setup state line row next stage c.args.out.now.items c.reply.new.out.items is_line short.0 here (enters c.args.table.now))
    c.reply.ensures.enters

pub returns-in_ok-stage-in-Gathers-clause-moves : goal.returns-in_ok-stage-in-Gathers-clause-moves
returns-in_ok-stage-in-Gathers-clause-moves c = λ line is_line given.
    let setup = setup_of c.args.self.now c.args.table.now in
    let state = command_state_of c.args.state in
    let chunk = c.in-Gathers in
    let text = c.args.text.now in
    let is : IsJudged setup (reading_of text) state (judged.Gathers chunk.transaction chunk.reader chunk.is_last) = rw chunk.is at c.in_ok-row.ensures in
    let short : IsGiven line text false = rw c.if-is_long.false at given in
    let here : IsJudged setup (reading_of line) state (judged.Gathers chunk.transaction chunk.reader chunk.is_last) = rw short.1 at is in
    nothing_after setup (Command state) c.in_ok-stage-in-Gathers.stage (line ++ crlf) c.args.out.now.items c.read_chunk.new.out.items c.in_ok-stage-in-Gathers.field-0-1
    (c.in_ok-stage-in-Gathers.ensures.moves c.args.table.now (Command state) (line ++ crlf)
    (gathers_line setup state line chunk.transaction chunk.reader chunk.is_last is_line short.0 here))

pub returns-in_ok-stage-in-Refuses-clause-moves : goal.returns-in_ok-stage-in-Refuses-clause-moves
returns-in_ok-stage-in-Refuses-clause-moves c = λ line is_line given.
    let setup = setup_of c.args.self.now c.args.table.now in
    let state = command_state_of c.args.state in
    let chunk = c.in-Refuses in
    let text = c.args.text.now in
    let is : IsJudged setup (reading_of text) state (judged.Refuses chunk.row chunk.state chunk.size) = rw chunk.is at c.in_ok-row.ensures in
    let short : IsGiven line text false = rw c.if-is_long.false at given in
    let here : IsJudged setup (reading_of line) state (judged.Refuses chunk.row chunk.state chunk.size) = rw short.1 at is in
    nothing_after setup (Command state) c.in_ok-stage-in-Refuses.stage (line ++ crlf) c.args.out.now.items c.skip.new.out.items c.in_ok-stage-in-Refuses.field-0-1
    (c.in_ok-stage-in-Refuses.ensures.moves c.args.table.now (Command state) (line ++ crlf)
    (refuses_line setup state line chunk.row chunk.state chunk.size is_line short.0 here))
