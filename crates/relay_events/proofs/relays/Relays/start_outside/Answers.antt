use Rattle.std.proofs.Common.{inl, inr, ◌≡◌, ◌<◌, ◌+◌, ◌-◌, ◌++◌, suc, [], ◌∷◌, length, Err, refl, sym, subst, ◌∙◌, rules}
use Rattle.std.specs.Prelude.{vec_capacity, vec_len}
use Rattle.relay_world.specs.World.{World}
use Rattle.relay_events.specs.declared.event.Event.TheVariants.{Give}
use Rattle.relay_events.specs.Give.{HasBegun}
use Rattle.relay_events.specs.Happened.{HasHappened}
use Rattle.relay_events.specs.Relays.{AreBound, free_lines, world_of}
use Rattle.relay_hosts.specs.Room.{HasRoom}
use Rattle.relay_events.specs.Step.{Steps}
use Rattle.relay_events.specs.Told.{LearnsOfBreaks}
use Rattle.relay_events.proofs.GiveLemmas.{first_not_down}
use Rattle.relay_events.proofs.NamedLemmas.{none_is_down}
use Rattle.relay_events.proofs.OutsideLemmas.{outside_bound, outside_happened, outside_room, outside_steps, outside_told, unstarted_outside}
use Rattle.relay_events.proofs.RunLemmas.{none_happened}
use Rattle.relay_events.proofs.StartLemmas.{outside_link}
use Rattle.relay_events.proofs.relays.Relays.start_outside.Goals as goal

pub begin-requires : goal.begin-requires
begin-requires g c = record {
  bound = c.requires.order.bound;
  first = c.requires.first;
  name = c.in-Ok.ensures ∙ c.as_slice.ensures.value;
  room = c.requires.room.attempt;
}

pub unwrap-requires : goal.unwrap-requires
unwrap-requires g c =
    c.push.ensures.succeeds
    (subst (λ l. vec_len l < vec_capacity l) (sym c.in-Ok-begin.ensures.rest.0) c.requires.room.link)

pub returns-clause-steps : goal.returns-clause-steps
returns-clause-steps g c =
    let old = world_of c.args.self.now in
    let mid = world_of c.begin.new.self in
    let place = c.in-Ok-begin.place in
    let links = c.push.new.self.items in
    let new : World _ = record mid { links = links } in
    let number : c.len-link.result + 1 ≡ suc (length old.links) = search rules in
    let begun = subst
    (λ n. HasBegun g.D.Disk.honest g.D.Disk.words old mid c.args.node c.args.message c.args.hop.now n place) number
    c.in-Ok-begin.ensures.begun in
    let pushed : links ≡ old.links ++ outside_link place ∷ [] = search rules in
    outside_steps g.D.Disk.honest g.D.Disk.words old mid new c.args.node c.args.message c.args.hop.now place begun links pushed refl
    c.requires.none c.requires.first c.requires.order.bound c.requires.order.told

pub returns-clause-happened : goal.returns-clause-happened
returns-clause-happened g c =
    let old = world_of c.args.self.now in
    let mid = world_of c.begin.new.self in
    let place = c.in-Ok-begin.place in
    let links = c.push.new.self.items in
    let new : World _ = record mid { links = links } in
    let number : c.len-link.result + 1 ≡ suc (length old.links) = search rules in
    let begun = subst
    (λ n. HasBegun g.D.Disk.honest g.D.Disk.words old mid c.args.node c.args.message c.args.hop.now n place) number
    c.in-Ok-begin.ensures.begun in
    let pushed : links ≡ old.links ++ outside_link place ∷ [] = search rules in
    outside_happened g.D.Disk.honest g.D.Disk.words old mid new c.args.node c.args.message c.args.hop.now place begun links pushed refl
    c.requires.none

pub returns-clause-order : goal.returns-clause-order
returns-clause-order g c =
    let old = world_of c.args.self.now in
    let mid = world_of c.begin.new.self in
    let place = c.in-Ok-begin.place in
    let links = c.push.new.self.items in
    let new : World _ = record mid { links = links } in
    let number : c.len-link.result + 1 ≡ suc (length old.links) = search rules in
    let begun = subst
    (λ n. HasBegun g.D.Disk.honest g.D.Disk.words old mid c.args.node c.args.message c.args.hop.now n place) number
    c.in-Ok-begin.ensures.begun in
    let pushed : links ≡ old.links ++ outside_link place ∷ [] = search rules in
    let bound = outside_bound g.D.Disk.honest g.D.Disk.words old mid new c.args.node c.args.message c.args.hop.now place begun links
    pushed refl c.requires.none c.requires.honest c.runs_keep_all.ensures c.requires.order.bound in
    record {
      bound = bound;
      told = outside_told g.D.Disk.honest g.D.Disk.words old mid new c.args.node c.args.message c.args.hop.now place begun links
          pushed refl c.requires.none c.requires.order.bound c.requires.order.told;
      room = subst (λ l. HasRoom new (vec_capacity l - vec_len l)) (sym c.in-Ok-begin.ensures.rest.1)
          (outside_room g.D.Disk.honest g.D.Disk.words old mid new c.args.node c.args.message c.args.hop.now place begun links
          pushed refl c.requires.none (free_lines c.args.self.now) bound c.requires.room.lines);
    }

pub returns-in-Err-clause-steps : goal.returns-in-Err-clause-steps
returns-in-Err-clause-steps g c =
    let old = world_of c.args.self.now in
    let new = world_of c.begin.new.self in
    subst (λ f. Steps g.D.Disk.honest g.D.Disk.words old (Give c.args.node) new (Err f)) (sym c.fault_of.ensures)
    (unstarted_outside g.D.Disk.honest g.D.Disk.words old new c.args.node c.args.message c.args.hop.now c.in-Err.fault c.requires.first
    c.in-Err.ensures.begun c.requires.none c.requires.order.told)

pub returns-in-Err-clause-happened : goal.returns-in-Err-clause-happened
returns-in-Err-clause-happened g c =
    let old = world_of c.args.self.now in
    subst (λ w. HasHappened g.D.Disk.honest g.D.Disk.words old w) (sym c.in-Err.ensures.begun.0)
    (none_happened g.D.Disk.honest g.D.Disk.words old)

pub returns-in-Err-clause-order : goal.returns-in-Err-clause-order
returns-in-Err-clause-order g c =
    let new = world_of c.begin.new.self in
    let is = c.in-Err.ensures.begun.0 in
    record {
      bound = subst (λ w. AreBound g.D.Disk.honest g.D.Disk.words w) (sym is) c.requires.order.bound;
      told = subst (λ w. LearnsOfBreaks w) (sym is) c.requires.order.told;
      room = subst (λ l. HasRoom new (vec_capacity l - vec_len l)) (sym c.in-Err.ensures.rest.1)
          (subst (λ w. HasRoom w (free_lines c.args.self.now)) (sym is) c.requires.order.room);
    }

pub returns-in_default-clause-steps : goal.returns-in_default-clause-steps
returns-in_default-clause-steps g c =
    let old = world_of c.args.self.now in
    inr (inl (
      tt,
      inl (first_not_down old c.args.node c.args.message c.args.hop.now c.requires.first
          (none_is_down old old.hosts c.args.hop.now c.requires.none)),
      refl,
      refl,
    ))
