use Rattle.std.proofs.Common.{inl, inr, ◌≡◌, ◌-◌, None, refl, sym, subst, rules}
use Rattle.std.specs.Prelude.{vec_capacity, vec_len}
use Rattle.relay_events.specs.FirstFault.{send_fault}
use Rattle.relay_hosts.specs.Links.{whole_link}
use Rattle.relay_events.specs.Happened.{HasHappened}
use Rattle.relay_events.specs.Relays.{free_lines, world_of}
use Rattle.relay_hosts.specs.Room.{HasRoom}
use Rattle.relay_events.proofs.CarryLemmas.{same_order}
use Rattle.relay_events.proofs.RunLemmas.{none_happened}
use Rattle.relay_events.proofs.SendLemmas.{sendable, sent_bound, sent_happened, sent_room, sent_steps, sent_told}
use Rattle.relay_events.proofs.relays.Relays.send.Goals as goal

pub write_on-requires : goal.write_on-requires
write_on-requires g c =
    let old = world_of c.args.self.now in
    let none : send_fault old (whole_link old.links c.args.number) ≡ None = search rules in
    sendable old old.links c.args.number none

pub returns-in-Ok-clause-steps : goal.returns-in-Ok-clause-steps
returns-in-Ok-clause-steps g c =
    let old = world_of c.args.self.now in
    let none : send_fault old (whole_link old.links c.args.number) ≡ None = search rules in
    sent_steps g.D.Disk.honest g.D.Disk.words old (world_of c.write_on.new.self) c.args.number c.args.octets.now
    c.in-Ok.ensures.ok none c.requires.order.told

pub returns-in-Ok-clause-happened : goal.returns-in-Ok-clause-happened
returns-in-Ok-clause-happened g c =
    sent_happened g.D.Disk.honest g.D.Disk.words (world_of c.args.self.now) (world_of c.write_on.new.self) c.args.number
    c.args.octets.now c.in-Ok.ensures.ok

pub returns-in-Ok-clause-order : goal.returns-in-Ok-clause-order
returns-in-Ok-clause-order g c =
    let old = world_of c.args.self.now in
    let new = world_of c.write_on.new.self in
    record {
      bound = sent_bound g.D.Disk.honest g.D.Disk.words old new c.args.number c.args.octets.now c.in-Ok.ensures.ok
          c.requires.honest c.runs_keep_all.ensures c.requires.order.bound;
      told = sent_told g.D.Disk.honest g.D.Disk.words old new c.args.number c.args.octets.now c.in-Ok.ensures.ok
          c.requires.order.told;
      room = subst (λ l. HasRoom new (vec_capacity l - vec_len l)) (sym c.write_on.ensures.ledger)
          (sent_room g.D.Disk.honest g.D.Disk.words old new c.args.number c.args.octets.now c.in-Ok.ensures.ok
          (free_lines c.args.self.now) c.requires.order.room);
    }

pub returns-in-Err-clause-steps : goal.returns-in-Err-clause-steps
returns-in-Err-clause-steps g c =
    let old = world_of c.args.self.now in
    let none : send_fault old (whole_link old.links c.args.number) ≡ None = search rules in
    inr (inl (tt, inl none, refl, c.in-Err.ensures.err))

pub returns-in-Err-clause-happened : goal.returns-in-Err-clause-happened
returns-in-Err-clause-happened g c =
    subst (λ w. HasHappened g.D.Disk.honest g.D.Disk.words (world_of c.args.self.now) w) (sym c.in-Err.ensures.err)
    (none_happened g.D.Disk.honest g.D.Disk.words (world_of c.args.self.now))

pub returns-in-Err-clause-order : goal.returns-in-Err-clause-order
returns-in-Err-clause-order g c =
    same_order g.D.Disk.honest g.D.Disk.words c.args.self.now c.write_on.new.self c.in-Err.ensures.err
    c.write_on.ensures.ledger c.requires.order
