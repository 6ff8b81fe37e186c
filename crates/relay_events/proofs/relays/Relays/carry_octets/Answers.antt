use Rattle.std.proofs.Common.{sym, subst, ◌∙◌}
use Rattle.relay_world.specs.World.{World}
use Rattle.relay_events.specs.Hear.{WaitsAt}
use Rattle.relay_events.specs.Happened.{HasHappened}
use Rattle.relay_events.specs.Relays.{AreBound, world_of}
use Rattle.relay_events.specs.Step.{Carries}
use Rattle.relay_events.specs.Told.{LearnsOfBreaks}
use Rattle.relay_events.specs.Act.{did_of}
use Rattle.relay_events.proofs.CarryLemmas.{carried_steps, kept_order, unheard_steps}
use Rattle.relay_events.proofs.RunLemmas.{both_happened, none_happened, still_bound}
use Rattle.relay_events.proofs.relays.Relays.carry_octets.Goals as goal

-- nothing was done for want of memory
pub returns-in_default-clause-steps : goal.returns-in_default-clause-steps
returns-in_default-clause-steps g c =
    unheard_steps g.D.Disk.honest g.D.Disk.words (world_of c.args.self.now) (world_of c.keep_lines.new.self) c.args.number
    c.args.node c.args.count c.requires.none c.keep_lines.ensures.world

pub returns-in_default-clause-happened : goal.returns-in_default-clause-happened
returns-in_default-clause-happened g c =
    subst (λ w. HasHappened g.D.Disk.honest g.D.Disk.words (world_of c.args.self.now) w) (sym c.keep_lines.ensures.world)
    (none_happened g.D.Disk.honest g.D.Disk.words (world_of c.args.self.now))

pub returns-in_default-clause-order : goal.returns-in_default-clause-order
returns-in_default-clause-order g c =
    kept_order g.D.Disk.honest g.D.Disk.words c.args.self.now c.keep_lines.new.self c.keep_lines.ensures.world
    c.keep_lines.ensures.free c.requires.order

pub hear-requires-clause-bound : goal.hear-requires-clause-bound
hear-requires-clause-bound g c =
    subst (λ w. AreBound g.D.Disk.honest g.D.Disk.words w) (sym c.keep_lines.ensures.world) c.requires.order.bound

pub hear-requires-clause-waits : goal.hear-requires-clause-waits
hear-requires-clause-waits g c =
    subst (λ (w : World _). WaitsAt w c.args.number c.args.node) (sym c.keep_lines.ensures.world) c.requires.waits

pub returns-in_default-hear-clause-steps : goal.returns-in_default-hear-clause-steps
returns-in_default-hear-clause-steps g c =
    unheard_steps g.D.Disk.honest g.D.Disk.words (world_of c.args.self.now) (world_of c.hear.new.self) c.args.number
    c.args.node c.args.count c.requires.none (c.in_default-hear.ensures.carries ∙ c.keep_lines.ensures.world)

pub returns-in_default-hear-clause-happened : goal.returns-in_default-hear-clause-happened
returns-in_default-hear-clause-happened g c =
    subst (λ w. HasHappened g.D.Disk.honest g.D.Disk.words (world_of c.args.self.now) w)
    (sym (c.in_default-hear.ensures.carries ∙ c.keep_lines.ensures.world))
    (none_happened g.D.Disk.honest g.D.Disk.words (world_of c.args.self.now))

pub returns-in_default-hear-clause-order : goal.returns-in_default-hear-clause-order
returns-in_default-hear-clause-order g c =
    let same = c.in_default-hear.ensures.carries ∙ c.keep_lines.ensures.world in
    record {
      bound = subst (λ w. AreBound g.D.Disk.honest g.D.Disk.words w) (sym same) c.requires.order.bound;
      told = subst (λ w. LearnsOfBreaks w) (sym same) c.requires.order.told;
      room = c.hear.ensures.room;
    }

pub finish-requires-clause-bound : goal.finish-requires-clause-bound
finish-requires-clause-bound g c =
    still_bound g.D.Disk.honest g.D.Disk.words c.requires.honest c.runs_keep_all.ensures (world_of c.keep_lines.new.self)
    (world_of c.hear.new.self)
    (subst (λ w. AreBound g.D.Disk.honest g.D.Disk.words w) (sym c.keep_lines.ensures.world) c.requires.order.bound)
    c.hear.ensures.happened

pub returns-clause-steps : goal.returns-clause-steps
returns-clause-steps g c =
    carried_steps g.D.Disk.honest g.D.Disk.words (world_of c.args.self.now) (world_of c.hear.new.self)
    (world_of c.finish.new.self) c.args.number c.args.node c.args.count (did_of c.in-Some.act) c.finish.result c.requires.none
    (subst (λ w. Carries g.D.Disk.honest g.D.Disk.words w c.args.number c.args.node c.args.count (world_of c.hear.new.self)
    (did_of c.in-Some.act)) c.keep_lines.ensures.world c.in-Some.ensures.carries) c.finish.ensures.finished

pub returns-clause-happened : goal.returns-clause-happened
returns-clause-happened g c =
    subst (λ w. HasHappened g.D.Disk.honest g.D.Disk.words w (world_of c.finish.new.self)) c.keep_lines.ensures.world
    (both_happened g.D.Disk.honest g.D.Disk.words (world_of c.keep_lines.new.self) (world_of c.hear.new.self)
    (world_of c.finish.new.self) c.hear.ensures.happened c.finish.ensures.happened)
