use Rattle.std.proofs.Common.{◌-◌, sym, subst}
use Rattle.std.specs.Prelude.{vec_capacity, vec_len}
use Rattle.relay_events.specs.Relays.{world_of}
use Rattle.relay_hosts.specs.Room.{HasRoom}
use Rattle.relay_events.proofs.DownLemmas.{crashed_down}
use Rattle.relay_events.proofs.relays.Relays.restart.Goals as goal

pub reopen-requires-clause-bound : goal.reopen-requires-clause-bound
reopen-requires-clause-bound g c = (c.requires.ready (world_of c.crash.new.self) c.crash.ensures.world).0

pub reopen-requires-clause-room : goal.reopen-requires-clause-room
reopen-requires-clause-room g c =
    subst (λ l. HasRoom (world_of c.crash.new.self) (vec_capacity l - vec_len l)) (sym c.crash.ensures.ledger)
    (c.requires.ready (world_of c.crash.new.self) c.crash.ensures.world).1

pub reopen-requires-clause-down : goal.reopen-requires-clause-down
reopen-requires-clause-down g c =
    crashed_down g.D.Disk.honest g.D.Disk.words (world_of c.args.self.now) (world_of c.crash.new.self) c.args.node
    c.args.origin c.crash.ensures.world

pub returns-clause-restarts : goal.returns-clause-restarts
returns-clause-restarts g c = record {
  down = world_of c.crash.new.self;
  crashes = c.crash.ensures.world;
  opened = c.reopen.ensures.opened;
  fewer = c.reopen.ensures.fewer;
}
