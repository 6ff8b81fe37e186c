-- What was heard is answered, each client in turn.
use Rattle.std.proofs.Common.{rules, ◌≡◌, [], ◌++◌, refl, sym, subst}
use Rattle.relay_connections.specs.Readiness.{clients_of}
use Rattle.relay_connections.specs.Served.{AreServed}
use Rattle.relay_connections.proofs.AnsweredLemmas.{hears_answered}
use Rattle.relay_connections.proofs.CarriedLemmas.{none_join}
use Rattle.relay_connections.proofs.RepliesLemmas.{mail_is, mail_same, mail_then, only_mail}
use Rattle.relay_connections.proofs.ServedLemmas.{served_at_once}
use Rattle.relay_connections.proofs.clients.Clients.hear.Goals as goal

pub returns-in_default-clause-served : goal.returns-in_default-clause-served
returns-in_default-clause-served g c = λ changes setting served.
    let same : c.hear_all.new.relay ≡ c.args.relay.now = search rules in
    let still = subst (λ relay. AreServed g.D.Disk.honest g.D.Disk.words g.S.Stream.remaining g.S.Stream.contents changes setting (clients_of c.args.self.now) relay) (sym same) served in
    let later = c.in_ok-give_one_up.ensures.served changes setting still in
    (served_at_once g.D.Disk.honest g.D.Disk.words g.S.Stream.remaining g.S.Stream.contents changes setting c.give_one_up.new.self.clients c.give_one_up.new.relay later, none_join g.S.Stream.remaining g.S.Stream.contents setting c.args.leaving.now.leavers)

pub returns-clause-served : goal.returns-clause-served
returns-clause-served g c = λ changes setting served.
    let own = rw c.in-Some.is at c.in_ok-sessions.ensures.own in
    let after = hears_answered g.D.Disk.honest g.D.Disk.words g.S.Stream.remaining g.S.Stream.contents changes setting c.args.self.now.clients c.standing-clients.result.now c.turned-first.result c.args.replies.now c.args.turn.now.now.moment c.args.relay.now c.hear_all.new.relay c.in-Some.field-0
    c.standing-clients.ensures.slots served own in
    let answered = c.in_ok-hears.ensures.served (changes ++ after.pending) setting after.answered in
    (record { added = after.pending; served = answered.0 }, answered.1)

-- Replies were heard with what clients sent, or nothing was heard.
pub returns-in_default-clause-heard : goal.returns-in_default-clause-heard
returns-in_default-clause-heard g c =
    let same : c.hear_all.new.relay ≡ c.args.relay.now = search rules in
    only_mail [] c.args.relay.now c.give_one_up.new.relay
    (mail_then c.args.relay.now c.hear_all.new.relay c.give_one_up.new.relay (mail_is c.args.relay.now c.hear_all.new.relay same) c.give_one_up.ensures.mail)

pub returns-clause-heard : goal.returns-clause-heard
returns-clause-heard g c =
    let own = rw c.in-Some.is at c.in_ok-sessions.ensures.own in
    record {
      before = c.args.relay.now;
      first = mail_same c.args.relay.now;
      pieces = own.pieces;
      group = own.group;
      answered = own.answered;
      notes = own.notes;
      each = own.replied;
      after = c.hear_all.new.relay;
      reads = own.reads;
      only = c.hear_all.ensures.only;
      last = only_mail [] c.hear_all.new.relay c.answer_each.new.relay c.answer_each.ensures.mail;
    }

-- All that may hear something have heard it.
pub returns-clause-all : goal.returns-clause-all
returns-clause-all g c = record {
  standing = c.standing-clients.result.now;
  slots = c.standing-clients.ensures.slots;
  first = c.turned-first.result;
  hearing = c.in-Some.field-0;
  replied_is = refl;
  later = c.hear_all.new.relay;
  own = rw c.in-Some.is at c.in_ok-sessions.ensures.own;
}

pub returns-in_default-clause-closes : goal.returns-in_default-clause-closes
returns-in_default-clause-closes g c = λ number does none. c.in_ok-give_one_up.ensures.closes number does

pub returns-clause-closes : goal.returns-clause-closes
returns-clause-closes g c = λ number does none. absurd (cc none)
