-- What an action after a reply makes of the progress.
use Rattle.relay_lines.specs.Reply.{Reply}
use Rattle.relay_book.specs.declared.change.Verdict.TheVariants.{Later}
use Rattle.relay_course.specs.declared.awaited.Awaited.TheVariants.{Ehlo, Helo, Content}
use Rattle.relay_course.specs.declared.reply_kind.ReplyKind.TheVariants.{Completion}
use Rattle.relay_course.specs.Progress.{Delivery, Progress, after_answer, after_hello, ended_by, gone_on, with_command}
use Rattle.relay_course.specs.VerdictTable.{content_verdict_by, refusal}
use Rattle.relay_course.specs.WrittenLine.{ehlo_line, helo_line}
use Rattle.relay_client.specs.declared.action.Action.{Action}
use Rattle.relay_client.specs.declared.action.Action.TheVariants.{Greet, TakeOffer, GreetPlainly, Begin, GoOn, SendText}
use Rattle.relay_client.specs.declared.action.Action.TheVariants.{EndAfterContent, PutOff, Refuse}

abbrev pub done_by : Delivery → Action → Reply → Progress → Progress
done_by delivery Greet reply old = with_command (ehlo_line delivery.host) Ehlo old
done_by delivery TakeOffer reply old = after_answer delivery Ehlo Completion reply old
done_by delivery GreetPlainly reply old = with_command (helo_line delivery.host) Helo old
done_by delivery Begin reply old = after_hello delivery old
done_by delivery GoOn reply old = gone_on delivery old
done_by delivery SendText reply old = with_command delivery.dot_text Content old
done_by delivery (EndAfterContent kind) reply old =
    ended_by delivery (content_verdict_by old.extensions.dsn kind reply) old
done_by delivery PutOff reply old = ended_by delivery Later old
done_by delivery Refuse reply old = ended_by delivery (refusal reply) old
