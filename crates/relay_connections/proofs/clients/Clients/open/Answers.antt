-- The session is open, and then its client stands, or it is ended again.
use Rattle.std.proofs.Common.{[], refl, ap, ◌∙◌, subst}
use Rattle.std.specs.Net.Addr.{ipv4_octets}
use Rattle.std.specs.Net.Socket.{v4_ip}
use Rattle.relay_connections.specs.Matched.{IsOfPeer}
use Rattle.relay_connections.proofs.MatchedLemmas.{greeted_none, is_live, nobody_opened, opens_freed, opens_one, refused_same}
use Rattle.relay_loop.specs.Clients.{TalksTo}
use Rattle.relay_loop.specs.Outboxes.{unwritten_at}
use Rattle.relay_node.specs.Node.{greeted_by}
use Rattle.relay_connections.proofs.RepliesLemmas.{mail_greeted, mail_opened, mail_refused, mail_then}
use Rattle.relay_connections.proofs.ServedLemmas as served
use Rattle.relay_connections.proofs.clients.Clients.open.Goals as goal

pub returns-in-Some-clause-opens : goal.returns-in-Some-clause-opens
returns-in-Some-clause-opens g c = λ matched.
    let mid = c.accept.new.self in
    let session = c.in-Ok.session in
    let talks = c.in-Ok.ensures.talks [] in
    let seat : IsOfPeer mid.node.seats session (ipv4_octets (v4_ip c.args.peer)) = record { seat = talks.seat.seat; there = talks.seat.at; same = talks.seat.peer_is ∙ c.octets.ensures ∙ ap ipv4_octets c.ip.ensures } in
    let live = is_live c.args.relay.now mid session c.in-Ok.ensures.records c.in-Ok.ensures.stopped.1 in
    opens_one c.args.peer c.args.self.now.clients c.args.relay.now mid c.greet.new.relay session talks.waiting talks.connection seat c.in-Ok.ensures.free c.in-Ok.ensures.only live matched
    c.put.new.self c.in-Some.client c.in-Some.ensures.greeted.0 c.in-Some.ensures.greeted.1 (c.put.ensures.there c.in-Ok.ensures.free.within) c.put.ensures.others

pub returns-in_default-clause-opens : goal.returns-in_default-clause-opens
returns-in_default-clause-opens g c = λ matched.
    let mid = c.accept.new.self in
    let session = c.in-Ok.session in
    let talks = c.in-Ok.ensures.talks [] in
    let seat : IsOfPeer mid.node.seats session (ipv4_octets (v4_ip c.args.peer)) = record { seat = talks.seat.seat; there = talks.seat.at; same = talks.seat.peer_is ∙ c.octets.ensures ∙ ap ipv4_octets c.ip.ensures } in
    let live = is_live c.args.relay.now mid session c.in-Ok.ensures.records c.in-Ok.ensures.stopped.1 in
    opens_freed c.args.peer c.args.self.now.clients c.args.relay.now mid c.greet.new.relay session talks.waiting talks.connection seat c.in-Ok.ensures.free c.in-Ok.ensures.only live matched
    (greeted_none session c.args.peer mid c.greet.new.relay c.greet.result c.greet.ensures.greeted c.in_default.not-Some)

pub returns-in-Some-clause-served : goal.returns-in-Some-clause-served
returns-in-Some-clause-served g c = λ changes setting all.
    let mid = c.accept.new.self in
    let session = c.in-Ok.session in
    let said = greeted_by (unwritten_at mid.clients session) in
    let talks = subst (λ address. TalksTo changes mid session address said []) (c.octets.ensures ∙ ap ipv4_octets c.ip.ensures) (c.in-Ok.ensures.talks changes) in
    served.opens_one g.D.Disk.honest g.D.Disk.words g.S.Stream.remaining g.S.Stream.contents changes setting c.args.peer c.args.stream c.args.self.now.clients c.args.relay.now mid c.greet.new.relay session said talks c.in-Ok.ensures.free c.in-Ok.ensures.only c.in-Ok.ensures.records all
    c.put.new.self c.in-Some.client (unwritten_at mid.clients session) c.in-Some.ensures.greeted.0 c.in-Some.ensures.greeted.1 (c.in-Some.ensures.said (λ none. cc none)) (c.put.ensures.there c.in-Ok.ensures.free.within) c.put.ensures.others refl refl
    c.in-Some.ensures.begins

pub returns-in_default-clause-served : goal.returns-in_default-clause-served
returns-in_default-clause-served g c = λ changes setting all.
    let mid = c.accept.new.self in
    let session = c.in-Ok.session in
    let said = greeted_by (unwritten_at mid.clients session) in
    let talks = subst (λ address. TalksTo changes mid session address said []) (c.octets.ensures ∙ ap ipv4_octets c.ip.ensures) (c.in-Ok.ensures.talks changes) in
    served.opens_freed g.D.Disk.honest g.D.Disk.words g.S.Stream.remaining g.S.Stream.contents changes setting c.args.peer c.args.stream c.args.self.now.clients c.args.relay.now mid c.greet.new.relay session said talks c.in-Ok.ensures.free c.in-Ok.ensures.only c.in-Ok.ensures.records all
    (greeted_none session c.args.peer mid c.greet.new.relay c.greet.result c.greet.ensures.greeted c.in_default.not-Some)

pub returns-in-Err-Stopped-clause-opens : goal.returns-in-Err-Stopped-clause-opens
returns-in-Err-Stopped-clause-opens g c =
    nobody_opened c.args.peer c.args.self.now.clients c.args.relay.now c.accept.new.self c.in-Err-Stopped.ensures.unchanged.0
    (refused_same c.args.relay.now.node c.accept.new.self.node c.in-Err-Stopped.field-0 c.in-Err-Stopped.ensures.refused)

pub returns-in-Err-clause-opens : goal.returns-in-Err-clause-opens
returns-in-Err-clause-opens g c =
    nobody_opened c.args.peer c.args.self.now.clients c.args.relay.now c.accept.new.self c.in-Err.ensures.unchanged.0
    (refused_same c.args.relay.now.node c.accept.new.self.node c.in-Err.field-0 c.in-Err.ensures.refused)

pub returns-in-Err-clause-served : goal.returns-in-Err-clause-served
returns-in-Err-clause-served g c = λ changes setting all.
    let mid = c.accept.new.self in
    served.none_opened g.D.Disk.honest g.D.Disk.words g.S.Stream.remaining g.S.Stream.contents changes setting c.args.peer c.args.stream c.args.self.now.clients mid
    (served.still_served g.D.Disk.honest g.D.Disk.words g.S.Stream.remaining g.S.Stream.contents changes setting c.args.self.now.clients c.args.relay.now mid c.in-Err.ensures.unchanged.0 c.in-Err.ensures.unchanged.1
    (refused_same c.args.relay.now.node mid.node c.in-Err.field-0 c.in-Err.ensures.refused) all)

-- No attempt is touched where a client comes.
pub returns-in-Some-clause-mail : goal.returns-in-Some-clause-mail
returns-in-Some-clause-mail g c =
    mail_then c.args.relay.now c.accept.new.self c.greet.new.relay (mail_opened c.in-Ok.session c.args.relay.now c.accept.new.self c.in-Ok.ensures.only c.in-Ok.ensures.records)
    (mail_greeted c.in-Ok.session c.args.peer c.accept.new.self c.greet.new.relay c.greet.result c.greet.ensures.greeted)

pub returns-in_default-clause-mail : goal.returns-in_default-clause-mail
returns-in_default-clause-mail g c =
    mail_then c.args.relay.now c.accept.new.self c.greet.new.relay (mail_opened c.in-Ok.session c.args.relay.now c.accept.new.self c.in-Ok.ensures.only c.in-Ok.ensures.records)
    (mail_greeted c.in-Ok.session c.args.peer c.accept.new.self c.greet.new.relay c.greet.result c.greet.ensures.greeted)

pub returns-in-Err-Stopped-clause-mail : goal.returns-in-Err-Stopped-clause-mail
returns-in-Err-Stopped-clause-mail g c =
    mail_refused c.args.relay.now c.accept.new.self c.in-Err-Stopped.field-0 c.in-Err-Stopped.ensures.unchanged.1 c.in-Err-Stopped.ensures.refused

pub returns-in-Err-clause-mail : goal.returns-in-Err-clause-mail
returns-in-Err-clause-mail g c =
    mail_refused c.args.relay.now c.accept.new.self c.in-Err.field-0 c.in-Err.ensures.unchanged.1 c.in-Err.ensures.refused
