-- The connection of this slot is the one, or none of all is.
use Rattle.std.proofs.Common.{◌≡◌, Some, ap, sym, ◌∙◌, arith}
use Rattle.relay_connections.proofs.Theorems.{none_at_all, none_more, same_value, some_there, stands_there}
use Rattle.relay_next_hops.specs.declared.hop.Hop.{Hop}
use Rattle.relay_next_hops.proofs.TriedLemmas.{IsTriedAt}
use Rattle.relay_next_hops.proofs.hops.Hops.is_tried.Goals as goal
use Rattle.relay_next_hops.proofs.hops.Hops.is_tried.Goals.{in-Some+else-is_for, in_default}

pub loop-slot-init : goal.loop-slot-init
loop-slot-init g c = λ number below tried. absurd (omega (arith, below))

pub loop-slot-preserved : goal.loop-slot-preserved
loop-slot-preserved g c =
    let there = stands_there c.standing-slot-items.result.now c.loop-slot.slot-index c.slot-item.result c.loop-slot-test.true c.slot-item.is in
    none_more (IsTriedAt c.args.self.now.hops c.args.message c.args.name.now c.args.lane) c.loop-slot.slot-index c.loop-slot.invariant (λ tried.
    let found : c.slot-item.result ≡ Some tried.hop = sym there ∙ c.standing-slot-items.ensures.slots c.loop-slot.slot-index ∙ tried.there in
    elim c.match-slot.branch [
      | in-Some+else-is_for w ↦
          let same = same_value w.in-Some.hop tried.hop (sym w.in-Some.is ∙ found) in
          absurd (w.is_for.ensures.other w.if-is_for.false (ap (λ (it : Hop _). it.message) same ∙ tried.its_message) (ap (λ (it : Hop _). it.aim.lane) same ∙ tried.its_lane) (ap (λ (it : Hop _). it.name) same ∙ tried.its_name))
      | in_default w ↦ absurd (w.in_default.not-Some tried.hop found)
    ])

pub returns-then-is_for-clause-tried : goal.returns-then-is_for-clause-tried
returns-then-is_for-clause-tried g c =
    let its = c.is_for.ensures.its c.if-is_for.true in
    λ _. record {
      number = c.loop-slot.slot-index;
      hop = c.in-Some.hop;
      there = sym (c.standing-slot-items.ensures.slots c.loop-slot.slot-index)
          ∙ stands_there c.standing-slot-items.result.now c.loop-slot.slot-index c.slot-item.result c.loop-slot-test.true c.slot-item.is
          ∙ c.in-Some.is;
      its_message = its.0;
      its_name = its.2;
      its_lane = its.1;
    }

pub returns-clause-other : goal.returns-clause-other
returns-clause-other g c = λ _ tried.
    absurd (none_at_all c.standing-slot-items.result.now (IsTriedAt c.args.self.now.hops c.args.message c.args.name.now c.args.lane) c.loop-slot.slot-index c.loop-slot-test.false
    (λ other here. some_there c.standing-slot-items.result.now c.args.self.now.hops other here.hop (c.standing-slot-items.ensures.slots other) here.there)
    c.loop-slot.invariant tried.number (record { hop = tried.hop; there = tried.there; its_message = tried.its_message; its_name = tried.its_name; its_lane = tried.its_lane }))
