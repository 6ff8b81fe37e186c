use Rattle.std.proofs.Common.{◌≡◌, ◌≢◌, [], Some, sym, ap, ◌∙◌, subst, arith}
use Rattle.relay_connections.specs.Readiness.{IsLeftClient}
use Rattle.std.proofs.lemmas.Bool.{false≢true}
use Rattle.relay_connections.proofs.LeftLemmas.{none_at_all, none_more, same_value, some_there, stands_there}
use Rattle.relay_connections.proofs.clients.Clients.is_ready.Goals as goal
use Rattle.relay_connections.proofs.clients.Clients.is_ready.Goals.{in-Some+else-is_ready, in_default}

pub loop-number-init : goal.loop-number-init
loop-number-init g c = λ number below left. absurd (omega (arith, below))

pub loop-number-preserved : goal.loop-number-preserved
loop-number-preserved g c =
    let there = stands_there c.standing-slot-items.result.now c.loop-number.number c.slot-item.result c.loop-number-test.true c.slot-item.is in
    none_more (IsLeftClient c.args.self.now.clients c.args.relay.now) c.loop-number.number c.loop-number.invariant (λ left.
    let found : c.slot-item.result ≡ Some left.client = sym there ∙ c.standing-slot-items.ensures.slots c.loop-number.number ∙ left.there in
    elim c.match-slot.branch [
      | in-Some+else-is_ready w ↦
          let same = same_value w.in-Some.client left.client (sym w.in-Some.is ∙ found) in
          let here = w.deref.ensures ∙ ap (λ client. client.value) same in
          let unread = subst (λ client. client.channel.block ≢ []) (sym here) left.unread in
          let held = subst (λ client. client.channel.held ≡ []) (sym here) left.held in
          absurd (false≢true (sym w.if-is_ready.false ∙ w.is_ready.ensures unread held left.written))
      | in_default w ↦ absurd (w.in_default.not-Some left.client found)
    ])

pub returns : goal.returns
returns g c = λ number left.
    absurd (none_at_all c.standing-slot-items.result.now (IsLeftClient c.args.self.now.clients c.args.relay.now) c.loop-number.number c.loop-number-test.false
    (λ other here. some_there c.standing-slot-items.result.now c.args.self.now.clients other here.client (c.standing-slot-items.ensures.slots other) here.there)
    c.loop-number.invariant number left)
