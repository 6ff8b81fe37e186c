-- The session of the client that was come to may be ended, or that of none of all.
use Rattle.std.proofs.Common.{◌≡◌, ◌≢◌, [], None, Some, sym, ap, ◌∙◌, subst, arith}
use Rattle.relay_connections.specs.Sessions.{IsBetweenMail, MayRetire}
use Rattle.std.proofs.lemmas.Bool.{false≢true}
use Rattle.relay_connections.proofs.LeftLemmas.{none_at_all, none_more, same_value, some_there, stands_there}
use Rattle.relay_connections.proofs.clients.Clients.may_retire_one.Goals as goal
use Rattle.relay_connections.proofs.clients.Clients.may_retire_one.Goals.{in-Some+else-is_between_mail, in_default}

pub loop-number-init : goal.loop-number-init
loop-number-init g c = λ number below may. absurd (omega (arith, below))

pub loop-number-preserved : goal.loop-number-preserved
loop-number-preserved g c =
    let there = stands_there c.standing-slot-items.result.now c.loop-number.number c.slot-item.result c.loop-number-test.true c.slot-item.is in
    none_more (MayRetire c.args.self.now c.args.relay.now) c.loop-number.number c.loop-number.invariant (λ may.
    let found : c.slot-item.result ≡ Some may.client = sym there ∙ c.standing-slot-items.ensures.slots c.loop-number.number ∙ may.there in
    elim c.match-slot.branch [
      | in-Some+else-is_between_mail w ↦
          let same = same_value w.in-Some.client may.client (sym w.in-Some.is ∙ found) in
          let here = w.deref.ensures ∙ ap (λ client. client.value) same in
          let between = subst (λ client. IsBetweenMail c.args.relay.now c.loop-number.number client.channel) (sym here) may.between in
          absurd (false≢true (sym w.if-is_between_mail.false ∙ w.is_between_mail.ensures.1 between))
      | in_default w ↦ absurd (w.in_default.not-Some may.client found)
    ])

pub returns : goal.returns
returns g c = λ number may.
    absurd (none_at_all c.standing-slot-items.result.now (MayRetire c.args.self.now c.args.relay.now) c.loop-number.number c.loop-number-test.false
    (λ other here. some_there c.standing-slot-items.result.now c.args.self.now.clients other here.client (c.standing-slot-items.ensures.slots other) here.there)
    c.loop-number.invariant number may)
