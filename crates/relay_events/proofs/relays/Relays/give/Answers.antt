use Rattle.std.proofs.Common.{inl, inr, ◌≡◌, None, Some, refl, sym, subst, rules}
use Rattle.relay_events.specs.declared.event.Event.TheVariants.{Give}
use Rattle.relay_events.specs.FirstFault.{unless_up}
use Rattle.relay_events.specs.Happened.{HasHappened}
use Rattle.relay_events.specs.Relays.{world_of}
use Rattle.relay_events.specs.Step.{Steps}
use Rattle.relay_events.proofs.GiveLemmas.{down_first}
use Rattle.relay_events.proofs.RunLemmas.{none_happened}
use Rattle.relay_events.proofs.relays.Relays.give.Goals as goal

pub returns-in-Some-clause-steps : goal.returns-in-Some-clause-steps
returns-in-Some-clause-steps g c =
    let old = world_of c.args.self.now in
    let is : unless_up old c.args.node None ≡ Some c.in-Some.fault = search rules in
    inl (down_first old c.args.node c.in-Some.fault is, refl)

pub returns-in_default-room_for_work-clause-steps : goal.returns-in_default-room_for_work-clause-steps
returns-in_default-room_for_work-clause-steps g c = inr (inl (tt, inr tt, refl, c.room_for_work.ensures.world))

pub returns-in_default-room_for_work-clause-happened : goal.returns-in_default-room_for_work-clause-happened
returns-in_default-room_for_work-clause-happened g c =
    let old = world_of c.args.self.now in
    subst (λ w. HasHappened g.D.Disk.honest g.D.Disk.words old w) (sym c.room_for_work.ensures.world)
    (none_happened g.D.Disk.honest g.D.Disk.words old)

pub do_first_work-requires-clause-up : goal.do_first_work-requires-clause-up
do_first_work-requires-clause-up g c =
    let none : unless_up (world_of c.args.self.now) c.args.node None ≡ None = search rules in
    subst (λ w. unless_up w c.args.node None ≡ None) (sym c.room_for_work.ensures.world) none

pub returns-clause-steps : goal.returns-clause-steps
returns-clause-steps g c =
    subst (λ w. Steps g.D.Disk.honest g.D.Disk.words w (Give c.args.node) (world_of c.do_first_work.new.self) c.do_first_work.result)
    c.room_for_work.ensures.world c.do_first_work.ensures.steps

pub returns-clause-happened : goal.returns-clause-happened
returns-clause-happened g c =
    subst (λ w. HasHappened g.D.Disk.honest g.D.Disk.words w (world_of c.do_first_work.new.self)) c.room_for_work.ensures.world
    c.do_first_work.ensures.happened
