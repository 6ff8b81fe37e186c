-- What a client's session has said stays said, or it has ended with its connection.
use Rattle.std.proofs.Common.{sym, subst}
use Rattle.std.specs.Net.Addr.{ipv4_octets}
use Rattle.std.specs.Net.Socket.{v4_ip}
use Rattle.relay_slots.specs.Slots.{slot_at}
use Rattle.relay_connections.specs.Exchange.{IsRead}
use Rattle.relay_connections.specs.Served.{HasNext, HasSession, Serves, StaysOrEnds, address_of}
use Rattle.relay_connections.proofs.CarriedLemmas.{none_join}
use Rattle.relay_connections.proofs.NextLemmas.{read_none, serves_none, stays_none}
use Rattle.relay_connections.proofs.RepliesLemmas.{mail_read, mail_then}
use Rattle.relay_connections.proofs.ServedLemmas.{next_has, read_rest, session_reads, works_on}
use Rattle.relay_connections.proofs.clients.Clients.read_one.Goals as goal

pub returns-in_default-clause-serves : goal.returns-in_default-clause-serves
returns-in_default-clause-serves g c = λ changes setting works serves. (
  serves_none g.S.Stream.remaining g.S.Stream.contents changes setting c.args.relay.now c.args.number c.take.result (slot_at c.args.self.now.clients c.args.number) (slot_at c.take.new.self c.args.number) c.take.ensures.taken
      c.in_default.not-Some c.take.ensures.free serves,
  none_join g.S.Stream.remaining g.S.Stream.contents setting c.args.leaving.now.leavers,
)

pub returns-in_default-next-clause-serves : goal.returns-in_default-next-clause-serves
returns-in_default-next-clause-serves g c = λ changes setting works serves.
    let old = c.args.relay.now in
    let new = c.read.new.relay in
    let number = c.args.number in
    let address = address_of c.in-Some.taken.value in
    let session = subst (λ slot. Serves g.S.Stream.remaining g.S.Stream.contents changes setting old number slot) (sym c.in-Some.ensures.taken) serves in
    let before : HasSession g.S.Stream.remaining g.S.Stream.contents changes setting old number 0 address c.deref_mut.result.now.channel =
    subst (λ client. HasSession g.S.Stream.remaining g.S.Stream.contents changes setting old number 0 address client.channel) (sym c.deref_mut.ensures.value) session in
    let stays = stays_none number old new c.in_ok-next.next c.in_ok-next.ensures.becomes c.in_default-next.not-Some in
    let read = read_none g.S.Stream.remaining g.S.Stream.contents number old new c.deref_mut.result.now.channel c.read.new.self.channel c.in_ok-next.next c.in_ok-next.ensures.read c.in_default-next.not-Some in
    let later = session_reads g.S.Stream.remaining g.S.Stream.contents changes setting old new number address c.deref_mut.result.now.channel c.read.new.self.channel before stays read in (
      subst (λ slot. Serves g.S.Stream.remaining g.S.Stream.contents changes setting new number slot) (sym (c.put.ensures.there c.in-Some.ensures.within))
          (subst (λ client. HasSession g.S.Stream.remaining g.S.Stream.contents changes setting new number 0 (address_of client) client.channel) (sym c.deref_mut-2.ensures.value)
          (subst (λ peer. HasSession g.S.Stream.remaining g.S.Stream.contents changes setting new number 0 (ipv4_octets (v4_ip peer)) c.read.new.self.channel) (sym c.read.ensures.peer)
          (subst (λ client. HasSession g.S.Stream.remaining g.S.Stream.contents changes setting new number 0 (address_of client) c.read.new.self.channel) (sym c.deref_mut.ensures.value) later))),
      none_join g.S.Stream.remaining g.S.Stream.contents setting c.args.leaving.now.leavers,
    )

pub returns-clause-serves : goal.returns-clause-serves
returns-clause-serves g c = λ changes setting works serves.
    let old = c.args.relay.now in
    let new = c.read.new.relay in
    let number = c.args.number in
    let address = address_of c.in-Some.taken.value in
    let session = subst (λ slot. Serves g.S.Stream.remaining g.S.Stream.contents changes setting old number slot) (sym c.in-Some.ensures.taken) serves in
    let before : HasSession g.S.Stream.remaining g.S.Stream.contents changes setting old number 0 address c.deref_mut.result.now.channel =
    subst (λ client. HasSession g.S.Stream.remaining g.S.Stream.contents changes setting old number 0 address client.channel) (sym c.deref_mut.ensures.value) session in
    let becomes = subst (StaysOrEnds number old new) c.in-Some-next.is c.in_ok-next.ensures.becomes in
    let read = subst (IsRead g.S.Stream.remaining g.S.Stream.contents number old new c.deref_mut.result.now.channel c.read.new.self.channel) c.in-Some-next.is c.in_ok-next.ensures.read in
    let has = next_has g.S.Stream.remaining g.S.Stream.contents changes setting old new number address c.deref_mut.result.now.channel c.read.new.self.channel before c.in-Some-next.next works becomes read in
    let rest = read_rest g.S.Stream.remaining g.S.Stream.contents number old new c.deref_mut.result.now.channel c.read.new.self.channel c.in_ok-next.next c.in_ok-next.ensures.read in
    c.in_ok-settle.ensures.serves changes setting (works_on setting.setups number old new rest works) c.in-Some.ensures.within c.take.ensures.free
    (subst (λ client. HasNext g.S.Stream.remaining g.S.Stream.contents changes setting new number (address_of client) client.channel c.in-Some-next.next) (sym c.deref_mut-2.ensures.value)
    (subst (λ peer. HasNext g.S.Stream.remaining g.S.Stream.contents changes setting new number (ipv4_octets (v4_ip peer)) c.read.new.self.channel c.in-Some-next.next) (sym c.read.ensures.peer)
    (subst (λ client. HasNext g.S.Stream.remaining g.S.Stream.contents changes setting new number (address_of client) c.read.new.self.channel c.in-Some-next.next) (sym c.deref_mut.ensures.value) has)))

-- No attempt is touched by what is read of a client.
pub returns-in_default-next-clause-mail : goal.returns-in_default-next-clause-mail
returns-in_default-next-clause-mail g c =
    mail_read g.S.Stream.remaining g.S.Stream.contents c.args.number c.args.relay.now c.read.new.relay c.deref_mut.result.now.channel c.read.new.self.channel c.read.result c.read.ensures.read c.read.ensures.ended

pub returns-in_err-next-clause-mail : goal.returns-in_err-next-clause-mail
returns-in_err-next-clause-mail g c =
    mail_read g.S.Stream.remaining g.S.Stream.contents c.args.number c.args.relay.now c.read.new.relay c.deref_mut.result.now.channel c.read.new.self.channel c.read.result c.read.ensures.read c.read.ensures.ended

pub returns-in_err-settle-clause-mail : goal.returns-in_err-settle-clause-mail
returns-in_err-settle-clause-mail g c =
    mail_then c.args.relay.now c.read.new.relay c.settle.new.relay
    (mail_read g.S.Stream.remaining g.S.Stream.contents c.args.number c.args.relay.now c.read.new.relay c.deref_mut.result.now.channel c.read.new.self.channel c.read.result c.read.ensures.read c.read.ensures.ended) c.settle.ensures.mail

pub returns-clause-mail : goal.returns-clause-mail
returns-clause-mail g c =
    mail_then c.args.relay.now c.read.new.relay c.settle.new.relay
    (mail_read g.S.Stream.remaining g.S.Stream.contents c.args.number c.args.relay.now c.read.new.relay c.deref_mut.result.now.channel c.read.new.self.channel c.read.result c.read.ensures.read c.read.ensures.ended) c.settle.ensures.mail
