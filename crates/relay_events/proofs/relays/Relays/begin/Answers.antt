use Rattle.std.proofs.Common.{inl, ◌≡◌, ◌++◌, [], ◌∷◌, length, Some, refl, sym, subst, ap, arith, rules}
use Rattle.std.specs.Prelude.{slice_get, slice_index_or, slice_set, vec_len}
use Rattle.relay_attempts.specs.declared.work.Work.TheVariants.{Try}
use Rattle.relay_world.specs.declared.attempt.Attempt.{Attempt}
use Rattle.relay_world.specs.declared.attempt.Fate.TheVariants.{Running}
use Rattle.relay_events.specs.Relays.{world_of}
use Rattle.relay_hosts.specs.Work.{HasChanges, works_in}
use Rattle.relay_events.proofs.ConnectLemmas.{same_hosts}
use Rattle.relay_events.proofs.GiveLemmas.{first_has, why_not_begun}
use Rattle.relay_events.proofs.PlaceLemmas.{value_same}
use Rattle.relay_events.proofs.TellLemmas.{get_within}
use Rattle.relay_events.proofs.relays.Relays.begin.Goals as goal

pub index_mut-requires : goal.index_mut-requires
index_mut-requires g c =
    let old = world_of c.args.self.now in
    let within = get_within old.hosts c.args.node c.requires.first.host c.requires.first.host_at in
    let len : length c.args.self.now.hosts.items ≡ vec_len c.args.self.now.hosts = search rules in
    omega (arith, within, len)

pub start-requires : goal.start-requires
start-requires g c =
    let old = world_of c.args.self.now in
    let first = c.requires.first in
    let was = c.index_mut.result.now in
    let at : was ≡ slice_index_or old.hosts c.args.node was = search rules in
    let same = value_same old.hosts c.args.node first.host was first.host_at at in
    subst (λ h. HasChanges g.D.Disk.honest g.D.Disk.words h) (sym same)
    (first_has g.D.Disk.honest g.D.Disk.words old c.args.node (Try c.args.message c.args.hop.now) first c.requires.bound)

pub unwrap-requires : goal.unwrap-requires
unwrap-requires g c = c.push.ensures.succeeds c.requires.room

pub returns-clause-begun : goal.returns-clause-begun
returns-clause-begun g c =
    let old = world_of c.args.self.now in
    let first = c.requires.first in
    let was = c.index_mut.result.now in
    let at : was ≡ slice_index_or old.hosts c.args.node was = search rules in
    let same = value_same old.hosts c.args.node first.host was first.host_at at in
    let started = c.in-Done.started in
    let attempt : Attempt = record {
      node = c.args.node;
      message = c.args.message;
      hop = c.args.name;
      places = started.places;
      link = c.args.link;
      fate = Running started.attempt;
    } in
    let pushed : c.push.new.self.items ≡ old.attempts ++ attempt ∷ [] = search rules in
    record {
      was = was;
      was_at = subst (λ h. slice_get old.hosts c.args.node ≡ Some h) (sym same) first.host_at;
      now = c.start.new.self;
      started = started;
      begins = c.in-Done.ensures.begun;
      attempt = attempt;
      is_attempt = (refl, refl, c.requires.name, refl, refl, refl);
      place_is = search rules;
      new_is = ap (λ tries. record (world_of c.args.self.now) {
        hosts = slice_set old.hosts c.args.node c.start.new.self;
        attempts = tries;
      }) pushed;
    }

pub returns-in-Refused-clause-begun : goal.returns-in-Refused-clause-begun
returns-in-Refused-clause-begun g c =
    let old = world_of c.args.self.now in
    let first = c.requires.first in
    let was = c.index_mut.result.now in
    let at : was ≡ slice_index_or old.hosts c.args.node was = search rules in
    let same = value_same old.hosts c.args.node first.host was first.host_at at in
    let was_at = subst (λ h. slice_get old.hosts c.args.node ≡ Some h) (sym same) first.host_at in
    let its = subst (λ h. slice_get (works_in old.clock h.state) 0 ≡ Some (Try c.args.message c.args.hop.now)) (sym same) first.first in (
      same_hosts old c.args.node was c.start.new.self was_at at c.in-Refused.ensures.begun.new_is,
      (was, was_at, why_not_begun was c.in-Refused.fault (c.in-Refused.ensures.first its)),
    )

pub returns-in-NoRoom-clause-begun : goal.returns-in-NoRoom-clause-begun
returns-in-NoRoom-clause-begun g c =
    let old = world_of c.args.self.now in
    let first = c.requires.first in
    let was = c.index_mut.result.now in
    let at : was ≡ slice_index_or old.hosts c.args.node was = search rules in
    let same = value_same old.hosts c.args.node first.host was first.host_at at in
    let was_at = subst (λ h. slice_get old.hosts c.args.node ≡ Some h) (sym same) first.host_at in
    (same_hosts old c.args.node was c.start.new.self was_at at c.in-NoRoom.ensures.begun, (was, was_at, inl refl))
