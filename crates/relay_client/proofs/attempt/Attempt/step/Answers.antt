use Rattle.std.proofs.Common.{◌++◌, take}
use Rattle.std.proofs.lemmas.Result.{IfOk-from_err}
use Rattle.relay_client.proofs.KeepLemmas.{fault_step, keeps_reply, reads_one}
use Rattle.relay_client.proofs.attempt.Attempt.step.Goals as goal

pub returns-in-Some-clause-keeps : goal.returns-in-Some-clause-keeps
returns-in-Some-clause-keeps c = λ delivery input output is k.
    let old = c.args.self.now in
    let front = take c.in-Ok.cut.used c.args.rest.now in
    keeps_reply old.reader c.feed.new.self old.talk c.answer.new.self delivery input output front c.args.out.now.items
    c.answer.new.out.items c.in-Some.reply _ c.in_ok-verdicts-in-Ok.verdicts k
    (reads_one old.reader c.feed.new.self c.in-Ok.cut.reply c.in-Some.reply c.args.rest.now front c.in-Some.is
    c.in-Ok.ensures.reads)
    c.in-Some.reply-is
    (λ now holds. c.in_ok-verdicts-in-Ok.ensures delivery now holds is)

pub returns-in_ok-verdicts-in-Err-clause-keeps : goal.returns-in_ok-verdicts-in-Err-clause-keeps
returns-in_ok-verdicts-in-Err-clause-keeps c = λ delivery input output is k.
    let old = c.args.self.now in
    fault_step old.reader old.talk delivery input (output ++ c.args.out.now.items) c.args.rest.now c.in-Err.fault
    c.in_ok-verdicts-in-Err.verdicts k c.in-Err.ensures.faults c.if-is_no_memory.ensures c.in_ok-verdicts-in-Err.ensures

pub returns-in_err-verdicts-in-Ok-clause-keeps : goal.returns-in_err-verdicts-in-Ok-clause-keeps
returns-in_err-verdicts-in-Ok-clause-keeps c = IfOk-from_err c.from_residual.result _ c.from_residual.ensures.0

pub returns-in_err-verdicts-in-Ok-clause-within : goal.returns-in_err-verdicts-in-Ok-clause-within
returns-in_err-verdicts-in-Ok-clause-within c = IfOk-from_err c.from_residual.result _ c.from_residual.ensures.0

pub returns-in_err-verdicts-in-Err-clause-keeps : goal.returns-in_err-verdicts-in-Err-clause-keeps
returns-in_err-verdicts-in-Err-clause-keeps c =
    IfOk-from_err c.from_residual-in_err-verdicts-in-Err.result _ c.from_residual-in_err-verdicts-in-Err.ensures.0

pub returns-in_err-verdicts-in-Err-clause-within : goal.returns-in_err-verdicts-in-Err-clause-within
returns-in_err-verdicts-in-Err-clause-within c =
    IfOk-from_err c.from_residual-in_err-verdicts-in-Err.result _ c.from_residual-in_err-verdicts-in-Err.ensures.0
