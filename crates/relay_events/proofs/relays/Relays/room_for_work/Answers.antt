use Rattle.std.proofs.Common.{◌-◌, subst, sym, ◌∙◌}
use Rattle.std.specs.Prelude.{vec_capacity, vec_len}
use Rattle.relay_world.specs.World.{World}
use Rattle.relay_events.specs.Give.{most_places}
use Rattle.relay_events.specs.Relays.{world_of}
use Rattle.relay_hosts.specs.Room.{HasRoomFor}
use Rattle.relay_events.proofs.CarryLemmas.{kept_order, same_order}
use Rattle.relay_events.proofs.relays.Relays.room_for_work.Goals as goal

pub returns-in_default-clause-order : goal.returns-in_default-clause-order
returns-in_default-clause-order g c =
    kept_order g.D.Disk.honest g.D.Disk.words c.args.self.now c.keep_lines.new.self c.keep_lines.ensures.world
    c.keep_lines.ensures.free c.requires

pub returns-in_default-keep_places-clause-world : goal.returns-in_default-keep_places-clause-world
returns-in_default-keep_places-clause-world g c = c.keep_places.ensures.world ∙ c.keep_lines.ensures.world

pub returns-in_default-keep_places-clause-order : goal.returns-in_default-keep_places-clause-order
returns-in_default-keep_places-clause-order g c =
    same_order g.D.Disk.honest g.D.Disk.words c.keep_lines.new.self c.keep_places.new.self c.keep_places.ensures.world
    c.keep_places.ensures.ledger
    (kept_order g.D.Disk.honest g.D.Disk.words c.args.self.now c.keep_lines.new.self c.keep_lines.ensures.world
    c.keep_lines.ensures.free c.requires)

pub returns-clause-world : goal.returns-clause-world
returns-clause-world g c = c.keep_places.ensures.world ∙ c.keep_lines.ensures.world

pub returns-clause-order : goal.returns-clause-order
returns-clause-order g c =
    same_order g.D.Disk.honest g.D.Disk.words c.keep_lines.new.self c.keep_places.new.self c.keep_places.ensures.world
    c.keep_places.ensures.ledger
    (kept_order g.D.Disk.honest g.D.Disk.words c.args.self.now c.keep_lines.new.self c.keep_lines.ensures.world
    c.keep_lines.ensures.free c.requires)

pub returns-clause-room : goal.returns-clause-room
returns-clause-room g c = record {
  link = c.in-Ok-keep_places.ensures.link;
  attempt = c.in-Ok-keep_places.ensures.attempt;
  lines = subst (λ (w : World _). HasRoomFor w most_places (vec_capacity c.keep_places.new.self.ledger - vec_len c.keep_places.new.self.ledger))
      (sym c.keep_places.ensures.world)
      (subst (λ l. HasRoomFor (world_of c.keep_lines.new.self) most_places (vec_capacity l - vec_len l))
      (sym c.keep_places.ensures.ledger) c.in-Ok.ensures.room);
}
