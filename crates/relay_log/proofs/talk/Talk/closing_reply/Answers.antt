-- The last reply, if it closes the connection.
use Rattle.std.proofs.Common.{rules}
use Rattle.relay_log.proofs.TalkLemmas.{last_told}
use Rattle.relay_log.proofs.talk.Talk.closing_reply.Goals as goal

pub returns : goal.returns
returns c = λ octets replies kept.
    last_told c.args.self.now.codes.items replies c.saturating_sub.result _ _ kept.codes (search rules)
    (c.reply_at.ensures octets replies kept) c.if_closing.ensures
