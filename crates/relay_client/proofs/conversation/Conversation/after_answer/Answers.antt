use Rattle.std.proofs.Common.{sym, subst, ap, ◌∙◌}
use Rattle.std.proofs.lemmas.Result.{IfOk-weaker}
use Rattle.relay_course.specs.Progress.{Progress, after_answer}
use Rattle.relay_course.specs.VerdictTable.{kind_of}
use Rattle.relay_course.specs.declared.reply_kind.ReplyKind.{ReplyKind}
use Rattle.relay_client.specs.Conversation.{Does}
use Rattle.relay_client.proofs.conversation.Conversation.after_answer.Goals as goal

pub returns : goal.returns
returns c = IfOk-weaker c.act.result _ _
    (λ ended does delivery old h is.
    let reply = c.args.reply.now in
    subst (λ (new : Progress). Does delivery old new c.act.new.self ended c.args.out.now.items c.act.new.out.items)
    (sym (c.action_after-action.ensures delivery reply old)
    ∙ ap (λ (kind : ReplyKind). after_answer delivery c.args.waited kind reply old)
    (c.kind_of.ensures ∙ ap kind_of c.code.ensures.value)) (does delivery old h is)) c.act.ensures
