use Rattle.std.proofs.Common.{◌≡◌, ◌-◌, None, refl, sym, subst, rules}
use Rattle.std.specs.Prelude.{vec_capacity, vec_len}
use Rattle.relay_events.specs.declared.event.Event.TheVariants.{Break}
use Rattle.relay_events.specs.declared.seen.Seen.TheVariants.{Broken}
use Rattle.relay_events.specs.FirstFault.{break_fault}
use Rattle.relay_hosts.specs.Links.{whole_link}
use Rattle.relay_events.specs.Relays.{free_lines, world_of}
use Rattle.relay_hosts.specs.Room.{HasRoom}
use Rattle.relay_events.specs.Step.{Shows}
use Rattle.relay_events.proofs.BreakLemmas.{is_link, off_bound, off_happened, room_broken}
use Rattle.relay_events.proofs.StepLemmas.{done_steps}
use Rattle.relay_events.proofs.RunLemmas.{both_happened}
use Rattle.relay_events.proofs.relays.Relays.break_link.Goals as goal

pub break_off-requires : goal.break_off-requires
break_off-requires g c =
    let old = world_of c.args.self.now in
    let none : break_fault old (whole_link old.links c.args.number) ≡ None = search rules in
    is_link old c.args.number none

pub finish-requires-clause-bound : goal.finish-requires-clause-bound
finish-requires-clause-bound g c =
    off_bound g.D.Disk.honest g.D.Disk.words c.requires.honest c.runs_keep_all.ensures (world_of c.args.self.now)
    (world_of c.break_off.new.self) c.args.number c.break_off.ensures.world c.requires.order.bound

pub finish-requires-clause-room : goal.finish-requires-clause-room
finish-requires-clause-room g c =
    subst (λ l. HasRoom (world_of c.break_off.new.self) (vec_capacity l - vec_len l)) (sym c.break_off.ensures.ledger)
    (room_broken g.D.Disk.honest g.D.Disk.words (world_of c.args.self.now) (world_of c.break_off.new.self) c.args.number
    (free_lines c.args.self.now) c.requires.order.room c.break_off.ensures.world)

pub returns-clause-steps : goal.returns-clause-steps
returns-clause-steps g c =
    let old = world_of c.args.self.now in
    let none : break_fault old (whole_link old.links c.args.number) ≡ None = search rules in
    done_steps g.D.Disk.honest g.D.Disk.words old (Break c.args.number) (world_of c.finish.new.self) c.finish.result (
      none,
      (
        world_of c.break_off.new.self,
        (
          Shows (Broken c.args.number),
          (c.break_off.ensures.world, refl),
          (c.finish.ensures.finished.0, c.finish.ensures.finished.1),
        ),
      ),
    )

pub returns-clause-happened : goal.returns-clause-happened
returns-clause-happened g c =
    both_happened g.D.Disk.honest g.D.Disk.words (world_of c.args.self.now) (world_of c.break_off.new.self)
    (world_of c.finish.new.self)
    (off_happened g.D.Disk.honest g.D.Disk.words (world_of c.args.self.now) (world_of c.break_off.new.self) c.args.number
    c.break_off.ensures.world) c.finish.ensures.happened
