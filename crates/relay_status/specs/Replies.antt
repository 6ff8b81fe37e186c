-- The last replies of next hops, as the page shows them.
use Rattle.std.specs.Prelude.{ℕ, Bool, false, true, List, Option, None, Some, codes}
use Rattle.relay_log.specs.declared.hop_link.Loss.{Loss}
use Rattle.relay_log.specs.declared.hop_link.Loss.TheVariants.{Cut, Refused, Silent, Unreachable}
use Rattle.relay_log.specs.declared.last_replies.Answer.{Answer}
use Rattle.relay_log.specs.declared.last_replies.Answer.TheVariants as made
use Rattle.relay_page.specs.declared.rows.LastReply.{LastReply}
use Rattle.relay_page.specs.declared.rows.LastReply.TheVariants as shown

-- profile: the words of the log for the reason of a failed connection
abbrev pub reason_of : Loss → List ℕ
reason_of Refused = codes "connection refused"
reason_of Unreachable = codes "unreachable"
reason_of Silent = codes "timeout"
reason_of Cut = codes "connection closed"

-- an answer: whether it was a reply, the reply or the reason without one, and when it came
abbrev pub said : Option Answer → Option (Bool × List ℕ × ℕ)
said None = None
said (Some (made.Replied text at)) = Some (true, text.items, at)
said (Some (made.Failed loss at)) = Some (false, reason_of loss, at)

-- what the page shows as an answer
abbrev pub said_in : LastReply → Option (Bool × List ℕ × ℕ)
said_in shown.NoneYet = None
said_in (shown.Replied text at) = Some (true, text.now, at)
said_in (shown.Failed reason at) = Some (false, reason.now, at)
