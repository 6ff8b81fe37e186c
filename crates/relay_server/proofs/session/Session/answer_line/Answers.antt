-- The line that has ended in the buffer is answered.
use Rattle.relay_server.specs.Machine.{IsGiven}
use Rattle.relay_server.proofs.session.Session.answer_line.Goals as goal

pub returns-clause-moves : goal.returns-clause-moves
returns-clause-moves c = λ line is_line given.
    let here : IsGiven line c.octets-text.result.now c.is_long-is_long.result = rw (c.octets-text.ensures, c.is_long-is_long.ensures) given in
    rw c.enter.ensures.stage (c.in_ok-stage.ensures.moves line is_line here)
