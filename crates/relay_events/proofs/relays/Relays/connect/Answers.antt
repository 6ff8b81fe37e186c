use Rattle.std.proofs.Common.{inl, inr, ◌≡◌, ◌-◌, length, None, Err, refl, sym, subst, ◌∙◌, arith, rules}
use Rattle.std.specs.Prelude.{vec_capacity, vec_len}
use Rattle.relay_events.specs.declared.event.Event.TheVariants.{Connect}
use Rattle.relay_events.specs.FirstFault.{unless_up}
use Rattle.relay_events.specs.Open.{LinksTo, RefusesClient}
use Rattle.relay_events.specs.Happened.{HasHappened}
use Rattle.relay_events.specs.Relays.{AreBound, free_lines, world_of}
use Rattle.relay_hosts.specs.Room.{HasRoom}
use Rattle.relay_events.specs.Step.{Steps, outside_address}
use Rattle.relay_events.specs.Told.{LearnsOfBreaks}
use Rattle.relay_events.proofs.ConnectLemmas.{linked_bound, linked_happened, linked_room, linked_steps, linked_told, same_links, unlinked_steps}
use Rattle.relay_events.proofs.RunLemmas.{none_happened}
use Rattle.relay_events.proofs.relays.Relays.connect.Goals as goal

pub open_link-requires-clause-bound : goal.open_link-requires-clause-bound
open_link-requires-clause-bound g c =
    let old = world_of c.args.self.now in
    let same = same_links old c.reserve.new.self.items c.reserve.ensures.items in
    subst (λ w. AreBound g.D.Disk.honest g.D.Disk.words w) (sym same) c.requires.order.bound

pub open_link-requires-clause-up : goal.open_link-requires-clause-up
open_link-requires-clause-up g c =
    let none : unless_up (world_of c.args.self.now) c.args.node None ≡ None = search rules in none

pub open_link-requires-clause-room : goal.open_link-requires-clause-room
open_link-requires-clause-room g c = let fits = c.in-Ok.ensures.ok in omega (arith, fits)

pub returns-in-Ok-open_link-clause-steps : goal.returns-in-Ok-open_link-clause-steps
returns-in-Ok-open_link-clause-steps g c =
    let old = world_of c.args.self.now in
    let new = world_of c.open_link.new.self in
    let same = same_links old c.reserve.new.self.items c.reserve.ensures.items in
    let none : unless_up old c.args.node None ≡ None = search rules in
    let links = subst (λ w. LinksTo w new c.args.node outside_address c.in-Ok-open_link.greeting) same c.in-Ok-open_link.ensures.opens in
    let number : c.len.result ≡ length new.links = search rules in
    linked_steps g.D.Disk.honest g.D.Disk.words old new c.args.node c.in-Ok-open_link.greeting c.len.result links none c.requires.order.told number

pub returns-in-Ok-open_link-clause-happened : goal.returns-in-Ok-open_link-clause-happened
returns-in-Ok-open_link-clause-happened g c =
    let old = world_of c.args.self.now in
    let new = world_of c.open_link.new.self in
    let same = same_links old c.reserve.new.self.items c.reserve.ensures.items in
    let links = subst (λ w. LinksTo w new c.args.node outside_address c.in-Ok-open_link.greeting) same c.in-Ok-open_link.ensures.opens in
    linked_happened g.D.Disk.honest g.D.Disk.words old new c.args.node outside_address c.in-Ok-open_link.greeting links

pub returns-in-Ok-open_link-clause-order : goal.returns-in-Ok-open_link-clause-order
returns-in-Ok-open_link-clause-order g c =
    let old = world_of c.args.self.now in
    let new = world_of c.open_link.new.self in
    let same = same_links old c.reserve.new.self.items c.reserve.ensures.items in
    let links = subst (λ w. LinksTo w new c.args.node outside_address c.in-Ok-open_link.greeting) same c.in-Ok-open_link.ensures.opens in
    record {
      bound = linked_bound g.D.Disk.honest g.D.Disk.words old new c.args.node outside_address c.in-Ok-open_link.greeting links c.requires.honest
          c.runs_keep_all.ensures c.requires.order.bound;
      told = linked_told g.D.Disk.honest g.D.Disk.words old new c.args.node outside_address c.in-Ok-open_link.greeting links c.requires.order.told;
      room = subst (λ l. HasRoom new (vec_capacity l - vec_len l)) (sym c.in-Ok-open_link.ensures.rest.1)
          (linked_room g.D.Disk.honest g.D.Disk.words old new c.args.node outside_address c.in-Ok-open_link.greeting links
          (free_lines c.args.self.now) c.requires.order.room);
    }

pub returns-in-Err-clause-steps : goal.returns-in-Err-clause-steps
returns-in-Err-clause-steps g c =
    let old = world_of c.args.self.now in
    let new = world_of c.open_link.new.self in
    let same = same_links old c.reserve.new.self.items c.reserve.ensures.items in
    let none : unless_up old c.args.node None ≡ None = search rules in
    let refuses = subst (λ w. RefusesClient w new c.args.node c.in-Err.fault) same c.in-Err.ensures.opens in
    subst (λ f. Steps g.D.Disk.honest g.D.Disk.words old (Connect c.args.node) new (Err f)) (sym c.fault_of.ensures)
    (unlinked_steps g.D.Disk.honest g.D.Disk.words old new c.args.node c.in-Err.fault refuses none c.requires.order.told)

pub returns-in-Err-clause-happened : goal.returns-in-Err-clause-happened
returns-in-Err-clause-happened g c =
    let old = world_of c.args.self.now in
    let new = world_of c.open_link.new.self in
    let same = same_links old c.reserve.new.self.items c.reserve.ensures.items in
    subst (λ w. HasHappened g.D.Disk.honest g.D.Disk.words old w) (sym (c.in-Err.ensures.opens.new_is ∙ same))
    (none_happened g.D.Disk.honest g.D.Disk.words old)

pub returns-in-Err-clause-order : goal.returns-in-Err-clause-order
returns-in-Err-clause-order g c =
    let old = world_of c.args.self.now in
    let new = world_of c.open_link.new.self in
    let same = same_links old c.reserve.new.self.items c.reserve.ensures.items in
    let is : new ≡ old = c.in-Err.ensures.opens.new_is ∙ same in
    record {
      bound = subst (λ w. AreBound g.D.Disk.honest g.D.Disk.words w) (sym is) c.requires.order.bound;
      told = subst (λ w. LearnsOfBreaks w) (sym is) c.requires.order.told;
      room = subst (λ l. HasRoom new (vec_capacity l - vec_len l)) (sym c.in-Err.ensures.rest.1)
          (subst (λ w. HasRoom w (free_lines c.args.self.now)) (sym is) c.requires.order.room);
    }

pub returns-in_default-reserve-clause-steps : goal.returns-in_default-reserve-clause-steps
returns-in_default-reserve-clause-steps g c =
    let old = world_of c.args.self.now in
    let none : unless_up old c.args.node None ≡ None = search rules in
    inr (inl (tt, inl none, refl, same_links old c.reserve.new.self.items c.reserve.ensures.items))

pub returns-in_default-reserve-clause-happened : goal.returns-in_default-reserve-clause-happened
returns-in_default-reserve-clause-happened g c =
    let old = world_of c.args.self.now in
    let same = same_links old c.reserve.new.self.items c.reserve.ensures.items in
    subst (λ w. HasHappened g.D.Disk.honest g.D.Disk.words old w) (sym same) (none_happened g.D.Disk.honest g.D.Disk.words old)

pub returns-in_default-reserve-clause-order : goal.returns-in_default-reserve-clause-order
returns-in_default-reserve-clause-order g c =
    let old = world_of c.args.self.now in
    let same = same_links old c.reserve.new.self.items c.reserve.ensures.items in
    record {
      bound = subst (λ w. AreBound g.D.Disk.honest g.D.Disk.words w) (sym same) c.requires.order.bound;
      told = subst (λ w. LearnsOfBreaks w) (sym same) c.requires.order.told;
      room = subst (λ w. HasRoom w (free_lines c.args.self.now)) (sym same) c.requires.order.room;
    }
