-- A client that is cut off is told so where nothing waits, and nothing is held.
use Rattle.relay_connections.specs.Served.{address_of}
use Rattle.relay_connections.proofs.NextLemmas.{cut_late, gone_late, nothing_held, told_late}
use Rattle.relay_connections.proofs.RepliesLemmas.{mail_ended}
use Rattle.relay_connections.proofs.clients.Clients.cut.Goals as goal

pub returns-then-is_holding-clause-next : goal.returns-then-is_holding-clause-next
returns-then-is_holding-clause-next g c = λ changes setting works session.
    let client = c.args.client.now in
    gone_late g.S.Stream.remaining g.S.Stream.contents changes setting c.args.relay.now c.drop_session.new.relay c.args.number (address_of client) client.channel works session
    c.drop_session.ensures.freed c.drop_session.result c.drop_session.ensures.next

pub returns-else-is_holding-clause-next : goal.returns-else-is_holding-clause-next
returns-else-is_holding-clause-next g c = λ changes setting works session.
    let client = c.args.client.now in
    cut_late g.S.Stream.remaining g.S.Stream.contents changes setting c.args.relay.now c.cut_off.new.relay c.args.number (address_of client) client.channel works session
    c.cut_off.ensures.freed c.args.why c.requires c.cut_off.result c.cut_off.ensures.next

pub returns-else-is_holding-clause-told : goal.returns-else-is_holding-clause-told
returns-else-is_holding-clause-told g c =
    told_late c.args.relay.now c.args.number c.args.client.now.channel c.args.why c.cut_off.result
    (nothing_held c.args.client.now.channel.held c.is_holding.result c.is_holding.ensures c.if-is_holding.false) c.cut_off.ensures.next

-- Its session ends, and nothing else changes.
pub returns-then-is_holding-clause-mail : goal.returns-then-is_holding-clause-mail
returns-then-is_holding-clause-mail g c = mail_ended c.args.number c.args.relay.now c.drop_session.new.relay c.drop_session.ensures.ends

pub returns-else-is_holding-clause-mail : goal.returns-else-is_holding-clause-mail
returns-else-is_holding-clause-mail g c = mail_ended c.args.number c.args.relay.now c.cut_off.new.relay c.cut_off.ensures.ends
