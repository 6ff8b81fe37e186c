-- The client stands again, or its number is free, and its connection may be one of those that leave.
use Rattle.std.proofs.Common.{rules, ◌≡◌, sym, subst}
use Rattle.relay_slots.specs.Slots.{slot_at}
use Rattle.relay_connections.specs.Carried.{CarriesLast, setup_at}
use Rattle.relay_connections.specs.Served.{HasNext, address_of}
use Rattle.relay_connections.proofs.CarriedLemmas.{leaves_join, none_join}
use Rattle.relay_connections.proofs.NextLemmas.{next_gone, next_leaves, next_stays}
use Rattle.relay_connections.proofs.clients.Clients.settle.Goals as goal

pub returns-in-Stays-clause-serves : goal.returns-in-Stays-clause-serves
returns-in-Stays-clause-serves g c = λ changes setting works within free has.
    let had = subst (λ client. HasNext g.S.Stream.remaining g.S.Stream.contents changes setting c.args.relay.now c.args.number (address_of client) client.channel c.args.next) (sym c.deref.ensures) has in
    let next = subst (λ client. HasNext g.S.Stream.remaining g.S.Stream.contents changes setting c.cut_off_late.new.relay c.args.number (address_of client) client.channel c.in_ok-next.next) c.deref.ensures
    (c.in_ok-next.ensures.next changes setting works had) in
    (next_stays g.S.Stream.remaining g.S.Stream.contents changes setting c.cut_off_late.new.relay c.args.number c.args.client (slot_at c.put.new.self c.args.number) c.in_ok-next.next c.in-Stays.is (c.put.ensures.there within) next, none_join g.S.Stream.remaining g.S.Stream.contents setting c.args.leaving.now.leavers)

pub returns-in-Leaves-clause-serves : goal.returns-in-Leaves-clause-serves
returns-in-Leaves-clause-serves g c = λ changes setting works within free has.
    let had = subst (λ client. HasNext g.S.Stream.remaining g.S.Stream.contents changes setting c.args.relay.now c.args.number (address_of client) client.channel c.args.next) (sym c.deref.ensures) has in
    let next = subst (λ client. HasNext g.S.Stream.remaining g.S.Stream.contents changes setting c.cut_off_late.new.relay c.args.number (address_of client) client.channel c.in_ok-next.next) c.deref.ensures
    (c.in_ok-next.ensures.next changes setting works had) in
    let so = next_leaves g.S.Stream.remaining g.S.Stream.contents changes setting c.cut_off_late.new.relay c.args.number (address_of c.args.client.value) c.args.client.value.channel (slot_at c.args.self.now.clients c.args.number) c.in_ok-next.next c.in-Leaves.outbox c.in-Leaves.is free
    next in
    let same : c.into_channel-channel.result ≡ c.args.client.value.channel = search rules in
    let carries = subst (λ channel. CarriesLast g.S.Stream.remaining g.S.Stream.contents (setup_at setting c.args.number) (setting.beginnings c.args.number) 0 channel c.in-Leaves.outbox) (sym same) so.1 in
    (so.0, leaves_join g.S.Stream.remaining g.S.Stream.contents setting c.args.number c.into_channel-channel.result c.in-Leaves.outbox c.args.leaving.now.leavers c.take.new.self.leavers carries c.take.ensures.taken)

pub returns-in-Gone-clause-serves : goal.returns-in-Gone-clause-serves
returns-in-Gone-clause-serves g c = λ changes setting works within free has.
    let had = subst (λ client. HasNext g.S.Stream.remaining g.S.Stream.contents changes setting c.args.relay.now c.args.number (address_of client) client.channel c.args.next) (sym c.deref.ensures) has in
    let next = subst (λ client. HasNext g.S.Stream.remaining g.S.Stream.contents changes setting c.cut_off_late.new.relay c.args.number (address_of client) client.channel c.in_ok-next.next) c.deref.ensures
    (c.in_ok-next.ensures.next changes setting works had) in
    (next_gone g.S.Stream.remaining g.S.Stream.contents changes setting c.cut_off_late.new.relay c.args.number (address_of c.args.client.value) c.args.client.value.channel (slot_at c.args.self.now.clients c.args.number) c.in_ok-next.next c.in-Gone.is free next, none_join g.S.Stream.remaining g.S.Stream.contents setting c.args.leaving.now.leavers)
