use Rattle.std.proofs.Common.{None, Some, sym, ◌∙◌}
use Rattle.relay_book.specs.declared.change.Verdict.TheVariants.{Later}
use Rattle.relay_course.specs.VerdictTable.{some_accepted}
use Rattle.relay_course.specs.Progress.{with_content, ended_by, rcpt_replies}
use Rattle.relay_client.proofs.DoesLemmas.{does_else, does_then, left_is}
use Rattle.relay_client.proofs.conversation.Conversation.after_rcpts.Goals as goal

pub returns-in_ok-ask_content : goal.returns-in_ok-ask_content
returns-in_ok-ask_content c = λ delivery old h is.
    does_then delivery old (with_content delivery old) (ended_by delivery Later old)
    (some_accepted (rcpt_replies old.answered)) c.ask_content.new.self None c.args.out.now.items
    c.ask_content.new.out.items (left_is delivery old c.args.self.now _ h (sym c.has_open.ensures ∙ c.if-has_open.true))
    (c.in_ok-ask_content.ensures delivery old h is)

pub returns-in_ok-end : goal.returns-in_ok-end
returns-in_ok-end c = λ delivery old h is.
    does_else delivery old (with_content delivery old) (ended_by delivery Later old)
    (some_accepted (rcpt_replies old.answered)) c.end.new.self (Some c.in_ok-end.field-0) c.args.out.now.items
    c.end.new.out.items (left_is delivery old c.args.self.now _ h (sym c.has_open.ensures ∙ c.if-has_open.false))
    (c.in_ok-end.ensures delivery old h)
