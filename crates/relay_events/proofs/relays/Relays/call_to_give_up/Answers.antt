use Rattle.std.proofs.Common.{◌≡◌, length, Some, refl, subst, sym, arith, rules}
use Rattle.std.specs.Prelude.{slice_get, slice_index_or, vec_len}
use Rattle.relay_attempts.specs.declared.work.Work.TheVariants.{NoRoute}
use Rattle.relay_world.specs.GivingUp.{NoHop}
use Rattle.relay_events.specs.Relays.{world_of}
use Rattle.relay_hosts.specs.Work.{GivesUpOrNot, GivesUpUnlessFull, HasChanges, works_in}
use Rattle.relay_events.proofs.GiveLemmas.{first_has}
use Rattle.relay_events.proofs.PlaceLemmas.{value_same}
use Rattle.relay_events.proofs.TellLemmas.{get_within}
use Rattle.relay_events.proofs.relays.Relays.call_to_give_up.Goals as goal

pub index_mut-requires : goal.index_mut-requires
index_mut-requires g c =
    let first = c.requires.first in
    let within = get_within c.args.self.now.hosts.items c.args.node first.host first.host_at in
    let len : length c.args.self.now.hosts.items ≡ vec_len c.args.self.now.hosts = search rules in
    omega (arith, within, len)

pub give_up-requires : goal.give_up-requires
give_up-requires g c =
    let old = world_of c.args.self.now in
    let first = c.requires.first in
    let was = c.index_mut.result.now in
    let at : was ≡ slice_index_or old.hosts c.args.node was = search rules in
    subst (λ h. HasChanges g.D.Disk.honest g.D.Disk.words h)
    (sym (value_same old.hosts c.args.node first.host was first.host_at at))
    (first_has g.D.Disk.honest g.D.Disk.words old c.args.node (NoRoute c.args.message) first c.requires.bound)

pub returns-clause-called : goal.returns-clause-called
returns-clause-called g c =
    let old = world_of c.args.self.now in
    let first = c.requires.first in
    let was = c.index_mut.result.now in
    let at : was ≡ slice_index_or old.hosts c.args.node was = search rules in
    let same = value_same old.hosts c.args.node first.host was first.host_at at in
    let its = subst (λ h. slice_get (works_in old.clock h.state) 0 ≡ Some (NoRoute c.args.message)) (sym same) first.first in
    record {
      called = record {
        was = first.host;
        was_at = first.host_at;
        has = first_has g.D.Disk.honest g.D.Disk.words old c.args.node (NoRoute c.args.message) first c.requires.bound;
        now = c.give_up.new.self;
        gives = subst
            (λ h. GivesUpOrNot g.D.Disk.honest g.D.Disk.words NoHop old.clock h c.give_up.new.self c.args.message c.give_up.result)
            same c.give_up.ensures.given;
        new_is = refl;
      };
      first = subst (λ h. GivesUpUnlessFull g.D.Disk.honest g.D.Disk.words old.clock h c.args.message c.give_up.result) same
          (c.give_up.ensures.first its);
    }
