use Rattle.std.proofs.Common.{◌≡◌, ◌≢◌, [], Some, sym, ap, ◌∙◌, subst, arith}
use Rattle.relay_next_hops.specs.Readiness.{IsLeftHop}
use Rattle.relay_connections.specs.Channel.{unread_of}
use Rattle.std.proofs.lemmas.Bool.{false≢true}
use Rattle.relay_connections.proofs.Theorems.{none_at_all, none_more, same_value, some_there, stands_there}
use Rattle.relay_next_hops.proofs.hops.Hops.is_ready.Goals as goal
use Rattle.relay_next_hops.proofs.hops.Hops.is_ready.Goals.{in-Some+else-is_ready, in_default}

pub loop-slot-init : goal.loop-slot-init
loop-slot-init g c = λ number below left. absurd (omega (arith, below))

pub loop-slot-preserved : goal.loop-slot-preserved
loop-slot-preserved g c =
    let there = stands_there c.standing-slot-items.result.now c.loop-slot.slot-index c.slot-item.result c.loop-slot-test.true c.slot-item.is in
    none_more (IsLeftHop c.args.self.now.hops c.args.relay.now) c.loop-slot.slot-index c.loop-slot.invariant (λ left.
    let found : c.slot-item.result ≡ Some left.hop = sym there ∙ c.standing-slot-items.ensures.slots c.loop-slot.slot-index ∙ left.there in
    elim c.match-slot.branch [
      | in-Some+else-is_ready w ↦
          let same = same_value w.in-Some.hop left.hop (sym w.in-Some.is ∙ found) in
          let runs = ap (λ hop. hop.attempt) same ∙ left.runs in
          let unread = subst (λ hop. unread_of hop.channel ≢ []) (sym same) left.unread in
          absurd (false≢true (sym w.if-is_ready.false ∙ w.is_ready.ensures left.attempt runs unread left.written))
      | in_default w ↦ absurd (w.in_default.not-Some left.hop found)
    ])

pub returns : goal.returns
returns g c = λ number left.
    absurd (none_at_all c.standing-slot-items.result.now (IsLeftHop c.args.self.now.hops c.args.relay.now) c.loop-slot.slot-index c.loop-slot-test.false
    (λ other here. some_there c.standing-slot-items.result.now c.args.self.now.hops other here.hop (c.standing-slot-items.ensures.slots other) here.there)
    c.loop-slot.invariant number left)
