-- A session whose connection has ended: what it had said, and its client hasn't got, comes back.
use Rattle.std.proofs.Common.{rules, ◌≡◌, [], Some, refl, sym, ap, ◌∙◌, subst}
use Rattle.relay_connections.specs.Channel.{unread_of}
use Rattle.relay_connections.specs.Exchange.{IsRead}
use Rattle.relay_connections.proofs.ExchangeLemmas.{read_end, some_is_not_none}
use Rattle.relay_connections.proofs.client.Client.read.Goals as goal
use Rattle.relay_connections.proofs.client.Client.read.Goals.{then-fill, else-fill}

pub returns-in_ok-end_session-in-Some-clause-read :
    goal.returns-in_ok-end_session-in-Some-clause-read
returns-in_ok-end_session-in-Some-clause-read g c =
    let after = c.fill.new.self in
    let same : c.if-fill.self.channel ≡ after = elim c.if-fill.branch [
      | then-fill w ↦ ap (λ client. client.channel) w.self-is ∙ w.note_read.ensures.channel
      | else-fill w ↦ ap (λ client. client.channel) w.self-is
    ] in
    let unread : unread_of c.if-fill.self.channel ≡ [] = search rules in
    let over : c.if-fill.self.channel.end ≡ Some c.in-Some.field-0 = c.in-Some.ensures.end c.in-Some.field-0 refl in
    subst (λ channel. IsRead g.S.Stream.remaining g.S.Stream.contents c.args.session c.args.relay.now c.end_session.new.relay c.args.self.now.channel channel (Some c.in_ok-end_session-in-Some.field-0))
    (sym same)
    (read_end g.S.Stream.remaining g.S.Stream.contents c.args.session c.args.relay.now c.flush.new.relay c.end_session.new.relay c.args.self.now.channel c.flush.new.self.channel after c.in_ok-end_session-in-Some.field-0
    c.flush.ensures.hands c.fill.ensures.output c.in_ok-end_session-in-Some.ensures.ends c.in_ok-end_session-in-Some.ensures.next (ap unread_of (sym same) ∙ unread)
    (some_is_not_none (ap (λ channel. channel.end) (sym same) ∙ over)) c.fill.ensures.end c.fill.ensures.input)
