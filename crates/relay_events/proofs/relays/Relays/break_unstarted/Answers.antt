use Rattle.std.proofs.Common.{◌-◌, sym, subst}
use Rattle.std.specs.Prelude.{vec_capacity, vec_len}
use Rattle.relay_events.specs.Relays.{free_lines, world_of}
use Rattle.relay_hosts.specs.Room.{HasRoom}
use Rattle.relay_events.specs.Step.{IsSeen, Refuses}
use Rattle.relay_events.proofs.BreakLemmas.{off_bound, off_happened, room_broken}
use Rattle.relay_events.proofs.RunLemmas.{both_happened}
use Rattle.relay_events.proofs.relays.Relays.break_unstarted.Goals as goal

pub finish-requires-clause-bound : goal.finish-requires-clause-bound
finish-requires-clause-bound g c =
    off_bound g.D.Disk.honest g.D.Disk.words c.requires.honest c.runs_keep_all.ensures (world_of c.args.self.now)
    (world_of c.break_off.new.self) c.args.number c.break_off.ensures.world c.requires.bound

pub finish-requires-clause-room : goal.finish-requires-clause-room
finish-requires-clause-room g c =
    subst (λ l. HasRoom (world_of c.break_off.new.self) (vec_capacity l - vec_len l)) (sym c.break_off.ensures.ledger)
    (room_broken g.D.Disk.honest g.D.Disk.words (world_of c.args.self.now) (world_of c.break_off.new.self) c.args.number
    (free_lines c.args.self.now) c.requires.room c.break_off.ensures.world)

pub returns-clause-breaks : goal.returns-clause-breaks
returns-clause-breaks g c = record {
  middle = world_of c.break_off.new.self;
  breaks = c.break_off.ensures.world;
  told = c.finish.ensures.finished.0;
  seen = subst (λ f. IsSeen (Refuses f) c.finish.ensures.finished.0.stopped c.finish.result) c.fault_of.ensures
      c.finish.ensures.finished.1;
}

pub returns-clause-happened : goal.returns-clause-happened
returns-clause-happened g c =
    both_happened g.D.Disk.honest g.D.Disk.words (world_of c.args.self.now) (world_of c.break_off.new.self)
    (world_of c.finish.new.self)
    (off_happened g.D.Disk.honest g.D.Disk.words (world_of c.args.self.now) (world_of c.break_off.new.self) c.args.number
    c.break_off.ensures.world) c.finish.ensures.happened
