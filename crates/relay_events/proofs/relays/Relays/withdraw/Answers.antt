use Rattle.std.proofs.Common.{inl, inr, ◌≡◌, None, Some, refl, sym, subst, rules}
use Rattle.relay_events.specs.declared.event.Event.TheVariants.{Withdraw}
use Rattle.relay_events.specs.FirstFault.{unless_up}
use Rattle.relay_events.specs.Happened.{HasHappenedFor, Unasked}
use Rattle.relay_events.specs.Relays.{world_of}
use Rattle.relay_events.specs.Step.{Steps}
use Rattle.relay_events.proofs.RunLemmas.{none_happened}
use Rattle.relay_events.proofs.relays.Relays.withdraw.Goals as goal

pub returns-in-Some-clause-steps : goal.returns-in-Some-clause-steps
returns-in-Some-clause-steps g c =
    let is : unless_up (world_of c.args.self.now) c.args.node None ≡ Some c.in-Some.fault = search rules in
    inl (is, refl)

pub returns-in-Some-clause-happened : goal.returns-in-Some-clause-happened
returns-in-Some-clause-happened g c = Unasked (none_happened g.D.Disk.honest g.D.Disk.words (world_of c.args.self.now))

pub returns-in_default-room_for_work-clause-steps : goal.returns-in_default-room_for_work-clause-steps
returns-in_default-room_for_work-clause-steps g c =
    let none : unless_up (world_of c.args.self.now) c.args.node None ≡ None = search rules in
    inr (inl (tt, inl none, refl, c.room_for_work.ensures.world))

pub returns-in_default-room_for_work-clause-happened : goal.returns-in_default-room_for_work-clause-happened
returns-in_default-room_for_work-clause-happened g c =
    let old = world_of c.args.self.now in
    let event = Withdraw c.args.node c.args.message c.args.place c.args.withdrawal in
    subst (λ w. HasHappenedFor g.D.Disk.honest g.D.Disk.words event old w) (sym c.room_for_work.ensures.world)
    (Unasked (none_happened g.D.Disk.honest g.D.Disk.words old))

pub withdraw_there-requires-clause-up : goal.withdraw_there-requires-clause-up
withdraw_there-requires-clause-up g c =
    let none : unless_up (world_of c.args.self.now) c.args.node None ≡ None = search rules in
    subst (λ w. unless_up w c.args.node None ≡ None) (sym c.room_for_work.ensures.world) none

pub returns-clause-steps : goal.returns-clause-steps
returns-clause-steps g c =
    let event = Withdraw c.args.node c.args.message c.args.place c.args.withdrawal in
    subst (λ w. Steps g.D.Disk.honest g.D.Disk.words w event (world_of c.withdraw_there.new.self) c.withdraw_there.result)
    c.room_for_work.ensures.world c.withdraw_there.ensures.steps

pub returns-clause-happened : goal.returns-clause-happened
returns-clause-happened g c =
    let event = Withdraw c.args.node c.args.message c.args.place c.args.withdrawal in
    subst (λ w. HasHappenedFor g.D.Disk.honest g.D.Disk.words event w (world_of c.withdraw_there.new.self))
    c.room_for_work.ensures.world c.withdraw_there.ensures.happened
