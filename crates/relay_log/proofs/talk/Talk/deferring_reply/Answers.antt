-- The reply that settles, or else the one that closes the connection.
use Rattle.std.proofs.Common.{sym, ◌∙◌}
use Rattle.relay_log.proofs.TalkLemmas.{one_told, other_told}
use Rattle.relay_log.proofs.talk.Talk.deferring_reply.Goals as goal

pub returns-then-is_some : goal.returns-then-is_some
returns-then-is_some c = λ octets replies kept.
    one_told _ c.settling_reply-settling.result _ _ (c.settling_reply-settling.ensures octets replies kept)
    (sym c.is_some.ensures ∙ c.if-is_some.true)

pub returns-else-is_some : goal.returns-else-is_some
returns-else-is_some c = λ octets replies kept.
    c.closing_reply.ensures octets replies kept
    ∙ other_told _ c.settling_reply-settling.result _ _ (c.settling_reply-settling.ensures octets replies kept)
    (sym c.is_some.ensures ∙ c.if-is_some.false)
