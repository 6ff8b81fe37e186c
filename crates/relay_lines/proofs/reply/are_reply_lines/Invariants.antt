-- the lines so far may stand in a reply
use Rattle.std.proofs.Common.{drop}
use Rattle.std.specs.List.{AllByRecursion}
use Rattle.relay_lines.specs.Reply.{IsReplyLine}
use Rattle.relay_lines.proofs.reply.are_reply_lines.Given as goal

abbrev pub invariant-loop-text : goal.invariant-loop-text
invariant-loop-text l =
    AllByRecursion IsReplyLine (drop l.text-index l.lines) → AllByRecursion IsReplyLine l.lines
