-- The answer to the octets decides what becomes of the client.
use Rattle.std.proofs.Common.{◌≡◌, ℕ, List, None, Some, Ok, Err, sym, subst}
use Rattle.std.specs.Net.Addr.{ipv4_octets}
use Rattle.std.specs.Net.Socket.{v4_ip}
use Rattle.relay_records.specs.declared.fault.NodeFault.{NodeFault}
use Rattle.relay_loop.specs.declared.clients.Heard.{Heard}
use Rattle.relay_slots.specs.Slots.{slot_at}
use Rattle.relay_connections.specs.Channel.{KeepsOutput}
use Rattle.relay_connections.specs.Exchange.{IsHanded, Uses}
use Rattle.relay_connections.specs.Served.{HasAnswered, HasNext, address_of}
use Rattle.relay_connections.specs.declared.client.Next.TheVariants.{Stays, Leaves}
use Rattle.relay_connections.proofs.CarriedLemmas.{none_join}
use Rattle.relay_connections.proofs.NextLemmas.{answer_next, answer_works, answered_none}
use Rattle.relay_connections.proofs.RepliesLemmas.{mail_answered, mail_then}
use Rattle.relay_connections.proofs.clients.Clients.answer_one.Goals as goal

pub returns-in_default-clause-serves : goal.returns-in_default-clause-serves
returns-in_default-clause-serves g c = λ changes setting works answered. (
  answered_none g.S.Stream.remaining g.S.Stream.contents changes setting c.args.relay.now c.args.number c.args.heard c.take.result (slot_at c.args.self.now.clients c.args.number) (slot_at c.take.new.self c.args.number) c.take.ensures.taken
      c.in_default.not-Some c.take.ensures.free answered,
  none_join g.S.Stream.remaining g.S.Stream.contents setting c.args.leaving.now.leavers,
)

pub returns-clause-serves : goal.returns-clause-serves
returns-clause-serves g c = λ changes setting works answered.
    let old = c.args.relay.now in
    let new = c.answer.new.relay in
    let number = c.args.number in
    let ensures = c.in_ok-next.ensures in
    let was = c.deref_mut.ensures.value in
    let after = c.answer.new.self.channel in
    let uses = λ (one : Heard) (is : c.args.heard ≡ Ok one).
    subst (λ client. Uses g.S.Stream.remaining one.used client.channel after) was (rw is at c.answer.ensures.used) in
    let stays : (one : Heard) → c.args.heard ≡ Ok one → one.last ≡ None → (c.in_ok-next.next ≡ Stays) × IsHanded g.S.Stream.remaining g.S.Stream.contents number old new c.in-Some.taken.value.channel after =
    λ one is none. let so = (rw is at ensures.stays) none in (so.0, subst (λ client. IsHanded g.S.Stream.remaining g.S.Stream.contents number old new client.channel after) was so.1) in
    let said = λ (one : Heard) (is : c.args.heard ≡ Ok one) (none : one.last ≡ None). (rw is at ensures.said) none in
    let leaves : (one : Heard) (last : List ℕ) → c.args.heard ≡ Ok one → one.last ≡ Some last
    → (c.in_ok-next.next ≡ Leaves last) × (new ≡ old) × KeepsOutput g.S.Stream.remaining g.S.Stream.contents c.in-Some.taken.value.channel after =
    λ one last is some. let so = (rw is at ensures.leaves) last some in (so.0, so.1, subst (λ client. KeepsOutput g.S.Stream.remaining g.S.Stream.contents client.channel after) was so.2) in
    let gone = λ (fault : NodeFault) (is : c.args.heard ≡ Err fault). rw is at ensures.gone in
    let had = subst (λ slot. HasAnswered g.S.Stream.remaining g.S.Stream.contents changes setting old number slot c.args.heard) (sym c.in-Some.ensures.taken) answered in
    let has = answer_next g.S.Stream.remaining g.S.Stream.contents changes setting old new number c.in-Some.taken after c.args.heard c.in_ok-next.next uses stays said leaves gone had in
    let alive = answer_works g.S.Stream.remaining g.S.Stream.contents changes setting old new number c.in-Some.taken after c.args.heard c.in_ok-next.next uses stays said leaves gone works in
    c.in_ok-settle.ensures.serves changes setting alive c.in-Some.ensures.within c.take.ensures.free
    (subst (λ client. HasNext g.S.Stream.remaining g.S.Stream.contents changes setting new number (address_of client) client.channel c.in_ok-next.next) (sym c.deref_mut-2.ensures.value)
    (subst (λ peer. HasNext g.S.Stream.remaining g.S.Stream.contents changes setting new number (ipv4_octets (v4_ip peer)) after c.in_ok-next.next) (sym c.answer.ensures.peer)
    (subst (λ client. HasNext g.S.Stream.remaining g.S.Stream.contents changes setting new number (address_of client) after c.in_ok-next.next) (sym c.deref_mut.ensures.value) has)))

-- No attempt is touched by the answer to a client.
pub returns-in_err-next-clause-mail : goal.returns-in_err-next-clause-mail
returns-in_err-next-clause-mail g c =
    mail_answered g.S.Stream.remaining g.S.Stream.contents c.args.number c.args.relay.now c.answer.new.relay c.deref_mut.result.now.channel c.answer.new.self.channel c.args.heard c.answer.result c.answer.ensures.stays c.answer.ensures.leaves c.answer.ensures.gone

pub returns-in_err-settle-clause-mail : goal.returns-in_err-settle-clause-mail
returns-in_err-settle-clause-mail g c =
    mail_then c.args.relay.now c.answer.new.relay c.settle.new.relay
    (mail_answered g.S.Stream.remaining g.S.Stream.contents c.args.number c.args.relay.now c.answer.new.relay c.deref_mut.result.now.channel c.answer.new.self.channel c.args.heard c.answer.result c.answer.ensures.stays c.answer.ensures.leaves c.answer.ensures.gone) c.settle.ensures.mail

pub returns-clause-mail : goal.returns-clause-mail
returns-clause-mail g c =
    mail_then c.args.relay.now c.answer.new.relay c.settle.new.relay
    (mail_answered g.S.Stream.remaining g.S.Stream.contents c.args.number c.args.relay.now c.answer.new.relay c.deref_mut.result.now.channel c.answer.new.self.channel c.args.heard c.answer.result c.answer.ensures.stays c.answer.ensures.leaves c.answer.ensures.gone) c.settle.ensures.mail
