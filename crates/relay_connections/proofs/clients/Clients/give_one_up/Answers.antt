-- The client that is given up leaves the others served.
use Rattle.std.proofs.Common.{◌≡◌, Some, length, refl, sym, ap, subst, ◌∙◌, arith}
use Rattle.relay_slots.specs.Slots.{slot_at}
use Rattle.relay_connections.specs.Readiness.{clients_of}
use Rattle.relay_connections.specs.Served.{AreServed, IsUnused, Serves, address_of}
use Rattle.relay_connections.specs.Welcome.{KeepsFull, KeepsTurn}
use Rattle.relay_connections.specs.Hearing.{hears, hears_at}
use Rattle.relay_connections.proofs.CircleLemmas.{turned_is}
use Rattle.relay_connections.proofs.ExchangeLemmas.{some_is_not_none}
use Rattle.relay_connections.proofs.HearsLemmas.{silent_more, silent_none}
use Rattle.relay_connections.proofs.LeftLemmas.{none_after}
use Rattle.relay_connections.proofs.RepliesLemmas.{mail_ended, mail_same, mail_then}
use Rattle.relay_connections.proofs.ServedLemmas.{frees, rest_of_end, served_on}
use Rattle.relay_connections.proofs.clients.Clients.give_one_up.Goals as goal
use Rattle.relay_connections.proofs.clients.Clients.give_one_up.Goals.{in-Some+else-deref, in-None-3}

pub loop-step-init : goal.loop-step-init
loop-step-init g c = record {
  served = λ changes setting served. served;
  mail = mail_same c.args.relay.now;
  turn = refl;
  full = λ is. is;
  same = λ number. refl;
  silent = λ step below. absurd (omega (arith, below));
  rest = λ number past. sym (c.standing-count.ensures.slots number) ∙ none_after c.standing-count.result.now number past;
}

pub loop-step-preserved : goal.loop-step-preserved
loop-step-preserved g c = record {
  served = λ changes setting served.
      let so = c.loop-step.invariant.served changes setting served in
      elim c.match-client_at.branch [
        | in-Some+else-deref w ↦ subst (λ self. AreServed g.D.Disk.honest g.D.Disk.words g.S.Stream.remaining g.S.Stream.contents changes setting (clients_of self) c.loop-step.relay) (sym w.self-is) so
        | in-None-3 w ↦ subst (λ self. AreServed g.D.Disk.honest g.D.Disk.words g.S.Stream.remaining g.S.Stream.contents changes setting (clients_of self) c.loop-step.relay) (sym w.self-is) so
      ];
  mail = c.loop-step.invariant.mail;
  turn = elim c.match-client_at.branch [
    | in-Some+else-deref w ↦ subst (KeepsTurn c.args.self.now) (sym w.self-is) c.loop-step.invariant.turn
    | in-None-3 w ↦ subst (KeepsTurn c.args.self.now) (sym w.self-is) c.loop-step.invariant.turn
  ];
  full = elim c.match-client_at.branch [
    | in-Some+else-deref w ↦ subst (KeepsFull c.args.self.now) (sym w.self-is) c.loop-step.invariant.full
    | in-None-3 w ↦ subst (KeepsFull c.args.self.now) (sym w.self-is) c.loop-step.invariant.full
  ];
  same = elim c.match-client_at.branch [
    | in-Some+else-deref w ↦ λ number. ap (λ self. slot_at (clients_of self) number) w.self-is ∙ c.loop-step.invariant.same number
    | in-None-3 w ↦ λ number. ap (λ self. slot_at (clients_of self) number) w.self-is ∙ c.loop-step.invariant.same number
  ];
  silent =
      let number = c.turned-number.result in
      let place = turned_is c.turned-first.result c.loop-step.step (length c.standing-count.result.now) number c.turned-first.ensures.within c.loop-step-test.true c.standing-count.ensures.within c.turned-number.ensures.place in
      let slots = sym (c.loop-step.invariant.same number) ∙ sym (c.standing.ensures.slots number) in
      silent_more (length c.standing-count.result.now) c.turned-first.result c.loop-step.step c.args.self.now.clients
      (ap (hears_at c.args.self.now.clients) place ∙ ap hears slots ∙ elim c.match-client_at.branch [
        | in-Some+else-deref w ↦ ap hears w.in-Some.ensures ∙ ap (λ client. client.hears) (sym w.deref.ensures) ∙ w.if-deref.false
        | in-None-3 w ↦ ap hears w.in-None-1.ensures
      ])
      c.loop-step.invariant.silent;
  rest = c.loop-step.invariant.rest;
}

pub returns-in-Some-clause-served : goal.returns-in-Some-clause-served
returns-in-Some-clause-served g c = λ changes setting served.
    let so = c.loop-step.invariant.served changes setting served in
    let number = c.turned-number.result in
    let there : slot_at c.loop-step.self.clients number ≡ Some c.in-Some.client.now = sym (c.standing.ensures.slots number) ∙ c.in-Some.ensures in
    let session = subst (λ slot. Serves g.S.Stream.remaining g.S.Stream.contents changes setting c.loop-step.relay number slot) there (so.each number) in
    let gone : IsUnused c.drop_session.new.relay number =
    frees changes c.loop-step.relay c.drop_session.new.relay number (address_of c.in-Some.client.now.value) session.said so.keeps.live session.has_said c.drop_session.ensures.freed in
    served_on g.D.Disk.honest g.D.Disk.words g.S.Stream.remaining g.S.Stream.contents changes setting c.loop-step.self.clients c.take-client.new.self c.loop-step.relay c.drop_session.new.relay number so
    (record { clients = c.take-client.ensures.others; rest = rest_of_end number c.loop-step.relay c.drop_session.new.relay c.drop_session.ensures.ends })
    (subst (λ slot. Serves g.S.Stream.remaining g.S.Stream.contents changes setting c.drop_session.new.relay number slot) (sym c.take-client.ensures.free) gone)

pub returns-in-Some-clause-mail : goal.returns-in-Some-clause-mail
returns-in-Some-clause-mail g c =
    mail_then c.args.relay.now c.loop-step.relay c.drop_session.new.relay c.loop-step.invariant.mail (mail_ended c.turned-number.result c.loop-step.relay c.drop_session.new.relay c.drop_session.ensures.ends)

-- The client that is closed had something to hear; none has where none is closed.
pub returns-in-Some-clause-closes : goal.returns-in-Some-clause-closes
returns-in-Some-clause-closes g c = λ number does. record {
  number = c.turned-number.result;
  stood = λ free. some_is_not_none (sym (c.standing.ensures.slots c.turned-number.result) ∙ c.in-Some.ensures) (c.loop-step.invariant.same c.turned-number.result ∙ free);
  gone = c.take-client.ensures.free;
}

pub returns-clause-closes : goal.returns-clause-closes
returns-clause-closes g c = λ number does.
    absurd (silent_none (length c.standing-count.result.now) c.turned-first.result c.loop-step.step c.args.self.now.clients c.loop-step-test.false c.loop-step.invariant.rest c.loop-step.invariant.silent number does)
