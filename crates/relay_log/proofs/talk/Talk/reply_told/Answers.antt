-- By the verdict, and whether the connection was lost.
use Rattle.relay_log.proofs.talk.Talk.reply_told.Goals as goal

pub returns-in-Taken : goal.returns-in-Taken
returns-in-Taken c = λ octets replies kept. rw c.in-Taken.is (c.settling_reply.ensures octets replies kept)

pub returns-in-Later : goal.returns-in-Later
returns-in-Later c = λ octets replies kept.
    rw c.in-Later.is (rw c.if-is_lost.true (c.closing_reply.ensures octets replies kept))

pub returns-in-Later-2 : goal.returns-in-Later-2
returns-in-Later-2 c = λ octets replies kept.
    rw c.in-Later-2.is (rw c.if-is_lost.false (c.deferring_reply.ensures octets replies kept))
