-- One client more is read of, and all are served.
use Rattle.std.proofs.Common.{◌+◌, ◌||◌, length, refl, sym, ap, subst, ◌∙◌, arith}
use Rattle.relay_slots.specs.Slots.{slot_at}
use Rattle.relay_connections.specs.Leaving.{ClientsJoin, leavers_of}
use Rattle.relay_connections.specs.Readiness.{clients_of}
use Rattle.relay_connections.specs.Replies.{LeavesMail}
use Rattle.relay_connections.specs.Served.{AreServed}
use Rattle.relay_connections.specs.Renewal.{AllWait}
use Rattle.relay_connections.specs.Welcome.{KeepsTurn}
use Rattle.relay_connections.proofs.CarriedLemmas.{more_join, none_join}
use Rattle.relay_connections.proofs.HearsLemmas.{AllStay, SeenHear, all_hear, all_stay, hears_one, none_on, none_there, or_second, seen_free, seen_more, stays_first, still_reads}
use Rattle.relay_connections.proofs.CircleLemmas.{turned_is}
use Rattle.relay_connections.proofs.LeftLemmas.{none_after}
use Rattle.relay_connections.proofs.RepliesLemmas.{mail_same, mail_then}
use Rattle.relay_connections.proofs.ServedLemmas.{served_on, served_works}
use Rattle.relay_connections.proofs.WaitLemmas.{all_same, all_then}
use Rattle.relay_connections.proofs.clients.Clients.read_each.Goals as goal
use Rattle.relay_connections.proofs.clients.Clients.read_each.Goals.{then-holds+in_ok-hears, else-holds}

pub loop-step-init : goal.loop-step-init
loop-step-init g c = record {
  served = λ changes setting served. (served, none_join g.S.Stream.remaining g.S.Stream.contents setting c.args.leaving.now.leavers);
  mail = mail_same c.args.relay.now;
  turn = refl;
  waits = all_same c.args.turn.now.now.tick c.args.self.now;
  stays = stays_first c.args.relay.now c.args.self.now.clients;
  seen = λ step below. absurd (omega (arith, below));
  none = λ number is. is;
  rest = λ number past. sym (c.standing-count.ensures.slots number) ∙ none_after c.standing-count.result.now number past;
}

pub loop-step-preserved : goal.loop-step-preserved
loop-step-preserved g c =
    let place = turned_is c.turned-first.result c.loop-step.step (length c.standing-count.result.now) c.turned-number.result c.turned-first.ensures.within c.loop-step-test.true c.standing-count.ensures.within c.turned-number.ensures.place in
    record {
      served = λ changes setting served.
          let had = c.loop-step.invariant.served changes setting served in
          let so = had.0 in
          elim c.if-holds.branch [
            | then-holds+in_ok-hears w ↦
                let serves = w.in_ok-hears.ensures.serves changes setting (served_works g.D.Disk.honest g.D.Disk.words g.S.Stream.remaining g.S.Stream.contents changes setting c.loop-step.self.clients c.loop-step.relay so) (so.each c.turned-number.result) in (
                  subst (λ self. AreServed g.D.Disk.honest g.D.Disk.words g.S.Stream.remaining g.S.Stream.contents changes setting (clients_of self) c.if-holds.relay) (sym w.self-is)
                      (subst (λ relay. AreServed g.D.Disk.honest g.D.Disk.words g.S.Stream.remaining g.S.Stream.contents changes setting (clients_of w.read_one.new.self) relay) (sym w.relay-is)
                      (served_on g.D.Disk.honest g.D.Disk.words g.S.Stream.remaining g.S.Stream.contents changes setting c.loop-step.self.clients w.read_one.new.self.clients c.loop-step.relay w.read_one.new.relay c.turned-number.result so w.in_ok-hears.ensures.only serves.0)),
                  subst (λ leaving. ClientsJoin g.S.Stream.remaining g.S.Stream.contents setting c.args.leaving.now.leavers (leavers_of leaving)) (sym w.leaving-is)
                      (more_join g.S.Stream.remaining g.S.Stream.contents setting c.args.leaving.now.leavers c.loop-step.leaving.leavers w.read_one.new.leaving.leavers had.1 serves.1),
                )
            | else-holds w ↦ (
              subst (λ self. AreServed g.D.Disk.honest g.D.Disk.words g.S.Stream.remaining g.S.Stream.contents changes setting (clients_of self) c.if-holds.relay) (sym w.self-is)
                  (subst (λ relay. AreServed g.D.Disk.honest g.D.Disk.words g.S.Stream.remaining g.S.Stream.contents changes setting (clients_of c.loop-step.self) relay) (sym w.relay-is) so),
              subst (λ leaving. ClientsJoin g.S.Stream.remaining g.S.Stream.contents setting c.args.leaving.now.leavers (leavers_of leaving)) (sym w.leaving-is) had.1,
            )
          ];
      mail = elim c.if-holds.branch [
        | then-holds+in_ok-hears w ↦ subst (LeavesMail c.args.relay.now) (sym w.relay-is) (mail_then c.args.relay.now c.loop-step.relay w.read_one.new.relay c.loop-step.invariant.mail w.in_ok-hears.ensures.mail)
        | else-holds w ↦ subst (LeavesMail c.args.relay.now) (sym w.relay-is) c.loop-step.invariant.mail
      ];
      turn = elim c.if-holds.branch [
        | then-holds+in_ok-hears w ↦ subst (KeepsTurn c.args.self.now) (sym w.self-is) (w.in_ok-hears.ensures.turn ∙ c.loop-step.invariant.turn)
        | else-holds w ↦ subst (KeepsTurn c.args.self.now) (sym w.self-is) c.loop-step.invariant.turn
      ];
      waits = elim c.if-holds.branch [
        | then-holds+in_ok-hears w ↦ subst (AllWait c.args.turn.now.now.tick c.args.self.now) (sym w.self-is)
            (all_then c.args.turn.now.now.tick c.args.self.now c.loop-step.self w.read_one.new.self c.loop-step.invariant.turn c.loop-step.invariant.waits w.in_ok-hears.ensures.waits)
        | else-holds w ↦ subst (AllWait c.args.turn.now.now.tick c.args.self.now) (sym w.self-is) c.loop-step.invariant.waits
      ];
      stays = elim c.if-holds.branch [
        | then-holds+in_ok-hears w ↦ subst (λ self. AllStay c.args.relay.now c.args.self.now.clients c.if-holds.relay (clients_of self)) (sym w.self-is)
            (subst (λ relay. AllStay c.args.relay.now c.args.self.now.clients relay (clients_of w.read_one.new.self)) (sym w.relay-is)
            (all_stay c.args.relay.now c.loop-step.relay w.read_one.new.relay c.args.self.now.clients c.loop-step.self.clients w.read_one.new.self.clients c.turned-number.result w.in_ok-hears.ensures.only (λ client there may. (w.read_one.ensures.hears client there may).1) c.loop-step.invariant.stays))
        | else-holds w ↦ subst (λ self. AllStay c.args.relay.now c.args.self.now.clients c.if-holds.relay (clients_of self)) (sym w.self-is)
            (subst (λ relay. AllStay c.args.relay.now c.args.self.now.clients relay (clients_of c.loop-step.self)) (sym w.relay-is) c.loop-step.invariant.stays)
      ];
      seen = elim c.if-holds.branch [
        | then-holds+in_ok-hears w ↦
            let now = still_reads c.args.relay.now c.loop-step.relay c.args.self.now.clients c.loop-step.self.clients c.turned-number.result c.loop-step.invariant.stays
            (λ client there may. let same = (w.in_ok-hears.ensures.hears client there may).0 in or_second c.loop-step.hears w.in_ok-hears.field-0 (cc same)) in
            subst (λ heard. SeenHear (length c.standing-count.result.now) c.turned-first.result (c.loop-step.step + 1) c.args.relay.now c.args.self.now.clients heard (clients_of c.if-holds.self)) (sym w.hears-is)
            (subst (λ self. SeenHear (length c.standing-count.result.now) c.turned-first.result (c.loop-step.step + 1) c.args.relay.now c.args.self.now.clients (c.loop-step.hears || w.in_ok-hears.field-0) (clients_of self)) (sym w.self-is)
            (seen_more c.args.relay.now c.loop-step.relay w.read_one.new.relay c.args.self.now.clients c.loop-step.self.clients w.read_one.new.self.clients c.turned-number.result w.in_ok-hears.ensures.only (λ client there may. (w.read_one.ensures.hears client there may).1) c.loop-step.invariant.stays
            (length c.standing-count.result.now) c.turned-first.result c.loop-step.step c.loop-step.hears (c.loop-step.hears || w.in_ok-hears.field-0) place (λ is. ap (λ heard. heard || w.in_ok-hears.field-0) is) now c.loop-step.invariant.seen))
        | else-holds w ↦
            let free = sym (c.standing.ensures.slots c.turned-number.result) ∙ none_there (slot_at c.standing.result.now c.turned-number.result) (sym c.holds.ensures ∙ w.if-holds.false) in
            subst (λ heard. SeenHear (length c.standing-count.result.now) c.turned-first.result (c.loop-step.step + 1) c.args.relay.now c.args.self.now.clients heard (clients_of c.if-holds.self)) (sym w.hears-is)
            (subst (λ self. SeenHear (length c.standing-count.result.now) c.turned-first.result (c.loop-step.step + 1) c.args.relay.now c.args.self.now.clients c.loop-step.hears (clients_of self)) (sym w.self-is)
            (seen_free c.args.relay.now c.loop-step.relay c.args.self.now.clients c.loop-step.self.clients c.loop-step.invariant.stays (length c.standing-count.result.now) c.turned-first.result c.loop-step.step c.loop-step.hears c.turned-number.result place free c.loop-step.invariant.seen))
      ];
      none = elim c.if-holds.branch [
        | then-holds+in_ok-hears w ↦ λ number is. ap (λ self. slot_at (clients_of self) number) w.self-is
            ∙ none_on c.loop-step.self.clients w.read_one.new.self.clients c.turned-number.result w.in_ok-hears.ensures.only.clients w.read_one.ensures.none number (c.loop-step.invariant.none number is)
        | else-holds w ↦ λ number is. ap (λ self. slot_at (clients_of self) number) w.self-is ∙ c.loop-step.invariant.none number is
      ];
      rest = c.loop-step.invariant.rest;
    }

-- All slots were passed.
pub returns-clause-hear : goal.returns-clause-hear
returns-clause-hear g c =
    all_hear c.args.relay.now c.loop-step.relay c.args.self.now.clients c.loop-step.self.clients c.loop-step.invariant.stays (length c.standing-count.result.now) c.turned-first.result c.loop-step.step c.loop-step.hears c.loop-step-test.false
    c.loop-step.invariant.rest c.loop-step.invariant.seen

pub returns-clause-one : goal.returns-clause-one
returns-clause-one g c =
    hears_one c.args.relay.now c.loop-step.relay c.args.self.now.clients c.loop-step.self.clients c.loop-step.invariant.stays (length c.standing-count.result.now) c.turned-first.result c.loop-step.step c.loop-step.hears c.loop-step-test.false
    c.loop-step.invariant.rest c.loop-step.invariant.seen
