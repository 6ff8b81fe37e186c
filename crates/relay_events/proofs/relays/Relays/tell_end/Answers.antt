use Rattle.std.proofs.Common.{◌-◌, false, sym, subst, ap, ◌∙◌}
use Rattle.std.specs.Prelude.{vec_capacity, vec_len}
use Rattle.relay_world.specs.World.{link_at}
use Rattle.relay_events.specs.Relays.{free_lines, world_of}
use Rattle.relay_hosts.specs.Room.{HasRoom}
use Rattle.relay_events.specs.Step.{Carries, Refuses}
use Rattle.relay_events.proofs.BreakLemmas.{room_broken, then_broken}
use Rattle.relay_events.proofs.CarriedLemmas.{dropped_carries, lost_carries, told_carries}
use Rattle.relay_events.proofs.relays.Relays.tell_end.Goals as goal

pub break_off-requires : goal.break_off-requires
break_off-requires g c = record {
  link = c.requires.tries.link;
  link_is = ap (λ ls. link_at ls c.args.number) c.in-Gone.ensures.told.0.links ∙ c.requires.tries.link_is;
}

pub returns-in-Ended-clause-carries : goal.returns-in-Ended-clause-carries
returns-in-Ended-clause-carries g c node count runs =
    lost_carries g.D.Disk.honest g.D.Disk.words (world_of c.args.self.now) (world_of c.lose_attempt.new.self) c.args.number node
    count c.in-Ended.change runs c.in-Ended.ensures.told

pub returns-in-Gone-clause-carries : goal.returns-in-Gone-clause-carries
returns-in-Gone-clause-carries g c node count runs =
    subst
    (λ f. Carries g.D.Disk.honest g.D.Disk.words (world_of c.args.self.now) c.args.number node count
    (world_of c.break_off.new.self) (Refuses f)) (sym c.fault_of.ensures)
    (dropped_carries g.D.Disk.honest g.D.Disk.words (world_of c.args.self.now) (world_of c.lose_attempt.new.self)
    (world_of c.break_off.new.self) c.args.number node count false c.in-Gone.why runs
    c.in-Gone.ensures.told.0 c.in-Gone.ensures.told.1 c.break_off.ensures.world)

pub returns-in-Gone-clause-happened : goal.returns-in-Gone-clause-happened
returns-in-Gone-clause-happened g c =
    then_broken g.D.Disk.honest g.D.Disk.words (world_of c.args.self.now) (world_of c.lose_attempt.new.self)
    (world_of c.break_off.new.self) c.args.number c.lose_attempt.ensures.happened c.break_off.ensures.world

pub returns-in-Gone-clause-room : goal.returns-in-Gone-clause-room
returns-in-Gone-clause-room g c =
    subst (λ l. HasRoom (world_of c.break_off.new.self) (vec_capacity l - vec_len l)) (sym c.break_off.ensures.ledger)
    (room_broken g.D.Disk.honest g.D.Disk.words (world_of c.lose_attempt.new.self) (world_of c.break_off.new.self) c.args.number
    (free_lines c.lose_attempt.new.self) c.lose_attempt.ensures.room c.break_off.ensures.world)

pub returns-in-Stopped-clause-carries : goal.returns-in-Stopped-clause-carries
returns-in-Stopped-clause-carries g c node count runs =
    told_carries g.D.Disk.honest g.D.Disk.words (world_of c.args.self.now) (world_of c.lose_attempt.new.self) c.args.number
    c.in-Stopped.node node count runs c.in-Stopped.ensures.told
