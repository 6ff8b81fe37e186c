use Rattle.std.proofs.Common.{◌≡◌, ◌-◌, None, Err, sym, subst, ◌∙◌, rules}
use Rattle.std.specs.Prelude.{vec_capacity, vec_len}
use Rattle.relay_events.specs.declared.event.Event.TheVariants.{Compact}
use Rattle.relay_events.specs.FirstFault.{unless_up}
use Rattle.relay_events.specs.Happened.{HasHappened}
use Rattle.relay_events.specs.Relays.{free_lines, world_of}
use Rattle.relay_hosts.specs.Room.{HasRoom}
use Rattle.relay_events.specs.Step.{CrashesInCompacting, Steps, Stops}
use Rattle.relay_events.proofs.CarryLemmas.{same_order}
use Rattle.relay_events.proofs.CompactLemmas.{halted_bound, halted_crash, halted_down, halted_happened, halted_room, rewritten_bound, rewritten_happened, rewritten_room, rewritten_steps, rewritten_told, unwritten_same, unwritten_steps}
use Rattle.relay_events.proofs.RunLemmas.{both_happened, none_happened, opened_happened, still_bound}
use Rattle.relay_events.proofs.StepLemmas.{done_steps}
use Rattle.relay_events.proofs.relays.Relays.compact.Goals as goal

pub call_to_compact-requires-clause-up : goal.call_to_compact-requires-clause-up
call_to_compact-requires-clause-up g c =
    let none : unless_up (world_of c.args.self.now) c.args.node None ≡ None = search rules in none

pub returns-in-Done-clause-steps : goal.returns-in-Done-clause-steps
returns-in-Done-clause-steps g c =
    let old = world_of c.args.self.now in
    let none : unless_up old c.args.node None ≡ None = search rules in
    rewritten_steps g.D.Disk.honest g.D.Disk.words old (world_of c.call_to_compact.new.self) c.args.node c.in-Done.size
    c.in-Done.ensures.called none c.requires.order.told

pub returns-in-Done-clause-happened : goal.returns-in-Done-clause-happened
returns-in-Done-clause-happened g c =
    rewritten_happened g.D.Disk.honest g.D.Disk.words (world_of c.args.self.now) (world_of c.call_to_compact.new.self)
    c.args.node c.in-Done.size c.in-Done.ensures.called

pub returns-in-Done-clause-order : goal.returns-in-Done-clause-order
returns-in-Done-clause-order g c =
    let old = world_of c.args.self.now in
    let new = world_of c.call_to_compact.new.self in
    record {
      bound = rewritten_bound g.D.Disk.honest g.D.Disk.words old new c.args.node c.in-Done.size c.in-Done.ensures.called
          c.requires.honest c.runs_keep_all.ensures c.requires.order.bound;
      told = rewritten_told g.D.Disk.honest g.D.Disk.words old new c.args.node c.in-Done.size c.in-Done.ensures.called
          c.requires.order.told;
      room = subst (λ l. HasRoom new (vec_capacity l - vec_len l)) (sym c.call_to_compact.ensures.ledger)
          (rewritten_room g.D.Disk.honest g.D.Disk.words old new c.args.node c.in-Done.size c.in-Done.ensures.called
          (free_lines c.args.self.now) c.requires.order.room);
    }

pub returns-in-Refused-clause-steps : goal.returns-in-Refused-clause-steps
returns-in-Refused-clause-steps g c =
    let old = world_of c.args.self.now in
    let new = world_of c.call_to_compact.new.self in
    let none : unless_up old c.args.node None ≡ None = search rules in
    subst (λ f. Steps g.D.Disk.honest g.D.Disk.words old (Compact c.args.node) new (Err f)) (sym c.fault_of.ensures)
    (unwritten_steps g.D.Disk.honest g.D.Disk.words old new c.args.node c.in-Refused.fault c.in-Refused.ensures.called none
    c.requires.order.told)

pub returns-in-Refused-clause-happened : goal.returns-in-Refused-clause-happened
returns-in-Refused-clause-happened g c =
    let old = world_of c.args.self.now in
    subst (λ w. HasHappened g.D.Disk.honest g.D.Disk.words old w)
    (sym (unwritten_same g.D.Disk.honest g.D.Disk.words old (world_of c.call_to_compact.new.self) c.args.node
    c.in-Refused.fault c.in-Refused.ensures.called)) (none_happened g.D.Disk.honest g.D.Disk.words old)

pub returns-in-Refused-clause-order : goal.returns-in-Refused-clause-order
returns-in-Refused-clause-order g c =
    same_order g.D.Disk.honest g.D.Disk.words c.args.self.now c.call_to_compact.new.self
    (unwritten_same g.D.Disk.honest g.D.Disk.words (world_of c.args.self.now) (world_of c.call_to_compact.new.self)
    c.args.node c.in-Refused.fault c.in-Refused.ensures.called) c.call_to_compact.ensures.ledger c.requires.order

pub reopen-requires-clause-bound : goal.reopen-requires-clause-bound
reopen-requires-clause-bound g c =
    halted_bound g.D.Disk.honest g.D.Disk.words (world_of c.args.self.now) (world_of c.call_to_compact.new.self) c.args.node
    c.in-Stopped.ensures.called (world_of c.let_go.new.self) c.let_go.ensures.world c.requires.honest
    c.runs_keep_all.ensures c.resting_crash_happens.ensures c.requires.order.bound

pub reopen-requires-clause-room : goal.reopen-requires-clause-room
reopen-requires-clause-room g c =
    let down = world_of c.let_go.new.self in
    subst (λ l. HasRoom down (vec_capacity l - vec_len l)) (sym (c.let_go.ensures.ledger ∙ c.call_to_compact.ensures.ledger))
    (halted_room g.D.Disk.honest g.D.Disk.words (world_of c.args.self.now) (world_of c.call_to_compact.new.self) c.args.node
    c.in-Stopped.ensures.called down c.let_go.ensures.world (free_lines c.args.self.now) c.requires.order.room)

pub reopen-requires-clause-down : goal.reopen-requires-clause-down
reopen-requires-clause-down g c =
    halted_down g.D.Disk.honest g.D.Disk.words (world_of c.args.self.now) (world_of c.call_to_compact.new.self) c.args.node
    c.in-Stopped.ensures.called (world_of c.let_go.new.self) c.let_go.ensures.world

pub finish-requires-clause-bound : goal.finish-requires-clause-bound
finish-requires-clause-bound g c =
    let old = world_of c.args.self.now in
    let down = world_of c.let_go.new.self in
    still_bound g.D.Disk.honest g.D.Disk.words c.requires.honest c.runs_keep_all.ensures down (world_of c.reopen.new.self)
    (halted_bound g.D.Disk.honest g.D.Disk.words old (world_of c.call_to_compact.new.self) c.args.node
    c.in-Stopped.ensures.called down c.let_go.ensures.world c.requires.honest c.runs_keep_all.ensures
    c.resting_crash_happens.ensures c.requires.order.bound)
    (opened_happened g.D.Disk.honest g.D.Disk.words down (world_of c.reopen.new.self) c.args.node c.reopen.ensures.opened)

pub returns-in-Stopped-clause-steps : goal.returns-in-Stopped-clause-steps
returns-in-Stopped-clause-steps g c =
    let old = world_of c.args.self.now in
    let none : unless_up old c.args.node None ≡ None = search rules in
    done_steps g.D.Disk.honest g.D.Disk.words old (Compact c.args.node) (world_of c.finish.new.self) c.finish.result (
      none,
      (
        world_of c.reopen.new.self,
        (
          Stops c.args.node,
          CrashesInCompacting (world_of c.let_go.new.self)
              (halted_crash g.D.Disk.honest g.D.Disk.words old (world_of c.call_to_compact.new.self) c.args.node
              c.in-Stopped.ensures.called (world_of c.let_go.new.self) c.let_go.ensures.world) c.reopen.ensures.opened,
          (c.finish.ensures.finished.0, c.finish.ensures.finished.1),
        ),
      ),
    )

pub returns-in-Stopped-clause-happened : goal.returns-in-Stopped-clause-happened
returns-in-Stopped-clause-happened g c =
    let old = world_of c.args.self.now in
    let down = world_of c.let_go.new.self in
    both_happened g.D.Disk.honest g.D.Disk.words old down (world_of c.finish.new.self)
    (halted_happened g.D.Disk.honest g.D.Disk.words old (world_of c.call_to_compact.new.self) c.args.node
    c.in-Stopped.ensures.called down c.let_go.ensures.world c.resting_crash_happens.ensures)
    (both_happened g.D.Disk.honest g.D.Disk.words down (world_of c.reopen.new.self) (world_of c.finish.new.self)
    (opened_happened g.D.Disk.honest g.D.Disk.words down (world_of c.reopen.new.self) c.args.node c.reopen.ensures.opened)
    c.finish.ensures.happened)
