use Rattle.std.proofs.Common.{inl, inr, ◌≤◌, Err, refl, sym, subst, ap, ◌∙◌, arith, rules}
use Rattle.std.specs.Prelude.{vec_capacity, vec_len}
use Rattle.std.proofs.lemmas.Option.{same_Some}
use Rattle.relay_attempts.specs.declared.work.Work.TheVariants.{NoRoute}
use Rattle.relay_world.specs.GivingUp.{NoHop}
use Rattle.relay_events.specs.declared.event.Event.TheVariants.{Give}
use Rattle.relay_events.specs.Happened.{HasHappened}
use Rattle.relay_events.specs.Relays.{free_lines, world_of}
use Rattle.relay_events.specs.Step.{CrashesInGivingUp, Steps, Stops}
use Rattle.relay_events.proofs.CarryLemmas.{same_order}
use Rattle.relay_events.proofs.GiveLemmas.{first_is, ungiven_steps}
use Rattle.relay_events.proofs.GiveUpLemmas.{called_same, few_given, given_bound, given_happened, given_room, given_steps, given_told, halted_crash, halted_happened, halted_ready, halted_short}
use Rattle.relay_events.proofs.RunLemmas.{both_happened, none_happened, still_bound}
use Rattle.relay_events.proofs.StepLemmas.{done_steps}
use Rattle.relay_events.proofs.relays.Relays.give_up_first.Goals as goal

pub note_left-requires : goal.note_left-requires
note_left-requires g c =
    let ledger = c.args.self.now.ledger in
    let few = few_given g.D.Disk.honest g.D.Disk.words NoHop (world_of c.args.self.now) (world_of c.call_to_give_up.new.self)
    c.args.node c.args.message c.in-Done.change c.in-Done.recorded c.in-Done.ensures.called.called in
    let room = c.requires.room.lines in
    let fits : vec_len ledger ≤ vec_capacity ledger = search rules in
    let len = ap (λ l. vec_len l) c.call_to_give_up.ensures.ledger in
    let capacity = ap (λ l. vec_capacity l) c.call_to_give_up.ensures.ledger in
    omega (arith, few, room, fits, len, capacity)

pub returns-in-Done-clause-steps : goal.returns-in-Done-clause-steps
returns-in-Done-clause-steps g c =
    given_steps g.D.Disk.honest g.D.Disk.words (world_of c.args.self.now) (world_of c.call_to_give_up.new.self) c.args.node
    c.args.message c.in-Done.change c.in-Done.recorded c.in-Done.ensures.called.called (world_of c.note_left.new.self)
    c.note_left.ensures.world c.requires.first c.requires.order.told

pub returns-in-Done-clause-happened : goal.returns-in-Done-clause-happened
returns-in-Done-clause-happened g c =
    given_happened g.D.Disk.honest g.D.Disk.words NoHop (world_of c.args.self.now) (world_of c.call_to_give_up.new.self) c.args.node
    c.args.message c.in-Done.change c.in-Done.recorded c.in-Done.ensures.called.called (world_of c.note_left.new.self)
    c.note_left.ensures.world

pub returns-in-Done-clause-order : goal.returns-in-Done-clause-order
returns-in-Done-clause-order g c =
    let old = world_of c.args.self.now in
    let called = world_of c.call_to_give_up.new.self in
    let new = world_of c.note_left.new.self in
    let same_len = ap (λ l. vec_len l) c.call_to_give_up.ensures.ledger in
    let same_capacity = ap (λ l. vec_capacity l) c.call_to_give_up.ensures.ledger in
    let len = c.note_left.ensures.len in
    let capacity = c.note_left.ensures.capacity in
    record {
      bound = given_bound g.D.Disk.honest g.D.Disk.words NoHop old called c.args.node c.args.message c.in-Done.change
          c.in-Done.recorded c.in-Done.ensures.called.called new c.note_left.ensures.world c.requires.honest c.runs_keep_all.ensures
          c.requires.order.bound;
      told = given_told g.D.Disk.honest g.D.Disk.words NoHop old called c.args.node c.args.message c.in-Done.change
          c.in-Done.recorded c.in-Done.ensures.called.called new c.note_left.ensures.world c.requires.order.told;
      room = given_room g.D.Disk.honest g.D.Disk.words NoHop old called c.args.node c.args.message c.in-Done.change
          c.in-Done.recorded c.in-Done.ensures.called.called new c.note_left.ensures.world (free_lines c.args.self.now)
          (free_lines c.note_left.new.self) c.requires.room.lines (omega (arith, same_len, same_capacity, len, capacity));
    }

pub returns-in-Refused-clause-steps : goal.returns-in-Refused-clause-steps
returns-in-Refused-clause-steps g c =
    let old = world_of c.args.self.now in
    let new = world_of c.call_to_give_up.new.self in
    let calls = c.in-Refused.ensures.called.called in
    subst (λ f. Steps g.D.Disk.honest g.D.Disk.words old (Give c.args.node) new (Err f)) (sym c.fault_of.ensures)
    (ungiven_steps g.D.Disk.honest g.D.Disk.words old new c.args.node c.args.message c.in-Refused.fault c.requires.first calls.was
    (same_Some calls.was c.requires.first.host (sym calls.was_at ∙ c.requires.first.host_at)) c.in-Refused.ensures.called.first
    (called_same g.D.Disk.honest g.D.Disk.words NoHop old new c.args.node c.args.message calls.was calls.now calls.was_at
    calls.gives.new_is calls.new_is) c.requires.order.told)

pub returns-in-Refused-clause-happened : goal.returns-in-Refused-clause-happened
returns-in-Refused-clause-happened g c =
    let old = world_of c.args.self.now in
    let calls = c.in-Refused.ensures.called.called in
    subst (λ w. HasHappened g.D.Disk.honest g.D.Disk.words old w)
    (sym (called_same g.D.Disk.honest g.D.Disk.words NoHop old (world_of c.call_to_give_up.new.self) c.args.node c.args.message
    calls.was calls.now calls.was_at calls.gives.new_is calls.new_is)) (none_happened g.D.Disk.honest g.D.Disk.words old)

pub returns-in-Refused-clause-order : goal.returns-in-Refused-clause-order
returns-in-Refused-clause-order g c =
    let calls = c.in-Refused.ensures.called.called in
    same_order g.D.Disk.honest g.D.Disk.words c.args.self.now c.call_to_give_up.new.self
    (called_same g.D.Disk.honest g.D.Disk.words NoHop (world_of c.args.self.now) (world_of c.call_to_give_up.new.self) c.args.node
    c.args.message calls.was calls.now calls.was_at calls.gives.new_is calls.new_is) c.call_to_give_up.ensures.ledger
    c.requires.order

pub returns-in-NoRoom-clause-steps : goal.returns-in-NoRoom-clause-steps
returns-in-NoRoom-clause-steps g c =
    let calls = c.in-NoRoom.ensures.called.called in
    inr (inl (
      tt,
      inr tt,
      refl,
      called_same g.D.Disk.honest g.D.Disk.words NoHop (world_of c.args.self.now) (world_of c.call_to_give_up.new.self) c.args.node
          c.args.message calls.was calls.now calls.was_at calls.gives calls.new_is,
    ))

pub returns-in-NoRoom-clause-happened : goal.returns-in-NoRoom-clause-happened
returns-in-NoRoom-clause-happened g c =
    let old = world_of c.args.self.now in
    let calls = c.in-NoRoom.ensures.called.called in
    subst (λ w. HasHappened g.D.Disk.honest g.D.Disk.words old w)
    (sym (called_same g.D.Disk.honest g.D.Disk.words NoHop old (world_of c.call_to_give_up.new.self) c.args.node c.args.message
    calls.was calls.now calls.was_at calls.gives calls.new_is)) (none_happened g.D.Disk.honest g.D.Disk.words old)

pub returns-in-NoRoom-clause-order : goal.returns-in-NoRoom-clause-order
returns-in-NoRoom-clause-order g c =
    let calls = c.in-NoRoom.ensures.called.called in
    same_order g.D.Disk.honest g.D.Disk.words c.args.self.now c.call_to_give_up.new.self
    (called_same g.D.Disk.honest g.D.Disk.words NoHop (world_of c.args.self.now) (world_of c.call_to_give_up.new.self) c.args.node
    c.args.message calls.was calls.now calls.was_at calls.gives calls.new_is) c.call_to_give_up.ensures.ledger
    c.requires.order

pub restart-requires-clause-cut : goal.restart-requires-clause-cut
restart-requires-clause-cut g c =
    halted_short g.D.Disk.honest g.D.Disk.words NoHop (world_of c.args.self.now) (world_of c.call_to_give_up.new.self) c.args.node
    c.args.message c.in-Stopped.ensures.called.called

pub restart-requires-clause-ready : goal.restart-requires-clause-ready
restart-requires-clause-ready g c =
    let room = c.requires.room.lines in
    let len = ap (λ l. vec_len l) c.call_to_give_up.ensures.ledger in
    let capacity = ap (λ l. vec_capacity l) c.call_to_give_up.ensures.ledger in
    halted_ready g.D.Disk.honest g.D.Disk.words NoHop (world_of c.args.self.now) (world_of c.call_to_give_up.new.self) c.args.node
    c.args.message c.in-Stopped.ensures.called.called c.requires.honest c.runs_keep_all.ensures c.resting_crash_happens.ensures
    c.requires.order.bound (free_lines c.call_to_give_up.new.self) (omega (arith, room, len, capacity))

pub finish-requires-clause-bound : goal.finish-requires-clause-bound
finish-requires-clause-bound g c =
    still_bound g.D.Disk.honest g.D.Disk.words c.requires.honest c.runs_keep_all.ensures (world_of c.args.self.now)
    (world_of c.restart.new.self) c.requires.order.bound
    (halted_happened g.D.Disk.honest g.D.Disk.words NoHop (world_of c.args.self.now) (world_of c.call_to_give_up.new.self) c.args.node
    c.args.message c.in-Stopped.ensures.called.called (world_of c.restart.new.self) c.restart.ensures.restarts
    c.resting_crash_happens.ensures)

pub returns-in-Stopped-clause-steps : goal.returns-in-Stopped-clause-steps
returns-in-Stopped-clause-steps g c =
    let old = world_of c.args.self.now in
    let restarts = c.restart.ensures.restarts in
    done_steps g.D.Disk.honest g.D.Disk.words old (Give c.args.node) (world_of c.finish.new.self) c.finish.result (
      first_is old c.args.node (NoRoute c.args.message) c.requires.first,
      (
        world_of c.restart.new.self,
        (
          Stops c.args.node,
          CrashesInGivingUp c.args.message c.requires.first restarts.down
              (halted_crash g.D.Disk.honest g.D.Disk.words NoHop old (world_of c.call_to_give_up.new.self) c.args.node c.args.message
              c.in-Stopped.ensures.called.called (world_of c.restart.new.self) restarts) restarts.opened,
          (c.finish.ensures.finished.0, c.finish.ensures.finished.1),
        ),
      ),
    )

pub returns-in-Stopped-clause-happened : goal.returns-in-Stopped-clause-happened
returns-in-Stopped-clause-happened g c =
    both_happened g.D.Disk.honest g.D.Disk.words (world_of c.args.self.now) (world_of c.restart.new.self)
    (world_of c.finish.new.self)
    (halted_happened g.D.Disk.honest g.D.Disk.words NoHop (world_of c.args.self.now) (world_of c.call_to_give_up.new.self) c.args.node
    c.args.message c.in-Stopped.ensures.called.called (world_of c.restart.new.self) c.restart.ensures.restarts
    c.resting_crash_happens.ensures) c.finish.ensures.happened
