use Rattle.std.proofs.Common.{◌<◌, ◌≤◌, ◌-◌, length, refl, subst, sym, rules}
use Rattle.std.specs.Prelude.{vec_capacity, vec_len}
use Rattle.relay_events.specs.declared.event.Event.TheVariants.{Stop}
use Rattle.relay_events.specs.Relays.{world_of}
use Rattle.relay_hosts.specs.Room.{HasRoom}
use Rattle.relay_events.specs.Step.{Stops}
use Rattle.relay_events.proofs.StepLemmas.{done_steps}
use Rattle.relay_events.proofs.RunLemmas.{both_happened, opened_happened, still_bound}
use Rattle.relay_events.proofs.StopNowLemmas.{stop_may, stop_refused, taken_bound, taken_down, taken_happened, taken_room, taken_stops}
use Rattle.relay_events.proofs.relays.Relays.stop_now.Goals as goal

pub reopen-requires-clause-bound : goal.reopen-requires-clause-bound
reopen-requires-clause-bound g c =
    taken_bound g.D.Disk.honest g.D.Disk.words (world_of c.args.self.now) (world_of c.take_down.new.self) c.args.node
    c.take_down.ensures.world c.requires.honest c.runs_keep_all.ensures c.resting_crash_happens.ensures c.requires.order.bound

pub reopen-requires-clause-room : goal.reopen-requires-clause-room
reopen-requires-clause-room g c =
    subst (λ l. HasRoom (world_of c.take_down.new.self) (vec_capacity l - vec_len l)) (sym c.take_down.ensures.ledger)
    (taken_room g.D.Disk.honest g.D.Disk.words (world_of c.args.self.now) (world_of c.take_down.new.self) c.args.node
    c.take_down.ensures.world _ c.requires.order.room)

pub reopen-requires-clause-down : goal.reopen-requires-clause-down
reopen-requires-clause-down g c =
    taken_down g.D.Disk.honest g.D.Disk.words (world_of c.args.self.now) (world_of c.take_down.new.self) c.args.node
    c.take_down.ensures.world

pub finish-requires-clause-bound : goal.finish-requires-clause-bound
finish-requires-clause-bound g c =
    still_bound g.D.Disk.honest g.D.Disk.words c.requires.honest c.runs_keep_all.ensures (world_of c.take_down.new.self)
    (world_of c.reopen.new.self)
    (taken_bound g.D.Disk.honest g.D.Disk.words (world_of c.args.self.now) (world_of c.take_down.new.self) c.args.node
    c.take_down.ensures.world c.requires.honest c.runs_keep_all.ensures c.resting_crash_happens.ensures c.requires.order.bound)
    (opened_happened g.D.Disk.honest g.D.Disk.words (world_of c.take_down.new.self) (world_of c.reopen.new.self) c.args.node
    c.reopen.ensures.opened)

pub returns-then-len-node-clause-steps : goal.returns-then-len-node-clause-steps
returns-then-len-node-clause-steps g c =
    let beyond : length c.args.self.now.hosts.items ≤ c.args.node = search rules in
    stop_refused g.D.Disk.honest g.D.Disk.words (world_of c.args.self.now) c.args.node c.args.pick beyond

pub returns-clause-steps : goal.returns-clause-steps
returns-clause-steps g c =
    let within : c.args.node < length c.args.self.now.hosts.items = search rules in
    done_steps g.D.Disk.honest g.D.Disk.words (world_of c.args.self.now) (Stop c.args.node 0 c.args.pick)
    (world_of c.finish.new.self) c.finish.result (
      stop_may g.D.Disk.honest g.D.Disk.words (world_of c.args.self.now) c.args.node c.args.pick within,
      (
        world_of c.reopen.new.self,
        (
          Stops c.args.node,
          (
            record {
              down = world_of c.take_down.new.self;
              stops = taken_stops g.D.Disk.honest g.D.Disk.words (world_of c.args.self.now) (world_of c.take_down.new.self)
                  c.args.node c.take_down.ensures.world;
              opened = c.reopen.ensures.opened;
            },
            refl,
          ),
          (c.finish.ensures.finished.0, c.finish.ensures.finished.1),
        ),
      ),
    )

pub returns-clause-happened : goal.returns-clause-happened
returns-clause-happened g c =
    both_happened g.D.Disk.honest g.D.Disk.words (world_of c.args.self.now) (world_of c.take_down.new.self) (world_of c.finish.new.self)
    (taken_happened g.D.Disk.honest g.D.Disk.words (world_of c.args.self.now) (world_of c.take_down.new.self) c.args.node
    c.take_down.ensures.world c.resting_crash_happens.ensures)
    (both_happened g.D.Disk.honest g.D.Disk.words (world_of c.take_down.new.self) (world_of c.reopen.new.self)
    (world_of c.finish.new.self)
    (opened_happened g.D.Disk.honest g.D.Disk.words (world_of c.take_down.new.self) (world_of c.reopen.new.self) c.args.node
    c.reopen.ensures.opened) c.finish.ensures.happened)
