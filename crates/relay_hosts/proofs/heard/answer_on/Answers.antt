use Rattle.std.proofs.Common.{◌≡◌, ◌++◌, length, ap, ◌∙◌, rules}
use Rattle.relay_hosts.proofs.HeardLemmas.{answered, answered_nothing, unanswered}
use Rattle.relay_hosts.proofs.heard.answer_on.Goals as goal

pub returns-then-is_empty-clause-ok : goal.returns-then-is_empty-clause-ok
returns-then-is_empty-clause-ok c =
    let none : length c.args.received.now.out.items ≡ 0 = search rules in
    answered_nothing c.args.link.now c.read_up.new.link c.close_server.new.link c.args.received.now c.close_server.new.link.down
    c.read_up.ensures c.close_server.ensures c.requires.whole none

pub returns-in-Err-clause-answers : goal.returns-in-Err-clause-answers
returns-in-Err-clause-answers c = search rules

pub returns-in-Ok-clause-ok : goal.returns-in-Ok-clause-ok
returns-in-Ok-clause-ok c =
    answered c.args.link.now c.read_up.new.link c.close_server.new.link c.args.received.now c.push_slice.new.self c.read_up.ensures
    c.close_server.ensures c.requires.whole
    (c.in-Ok.ensures.ok ∙ ap (λ l. c.close_server.new.link.down ++ l) c.as_slice.ensures.value)

pub returns-in-Err-clause-err : goal.returns-in-Err-clause-err
returns-in-Err-clause-err c =
    unanswered c.args.link.now c.read_up.new.link c.close_server.new.link c.args.received.now c.push_slice.new.self c.read_up.ensures
    c.close_server.ensures c.in-Err.ensures.err
