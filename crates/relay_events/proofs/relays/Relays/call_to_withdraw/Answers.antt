use Rattle.std.proofs.Common.{◌≡◌, ◌∷◌, [], length, refl, subst, sym, arith, rules}
use Rattle.std.specs.Prelude.{slice_index_or, vec_len}
use Rattle.relay_world.specs.GivingUp.{Postmaster}
use Rattle.relay_events.specs.Relays.{world_of}
use Rattle.relay_hosts.specs.Work.{GivesUpOrNot, HasChanges}
use Rattle.relay_events.proofs.BoundLemmas.{keeps_changes}
use Rattle.relay_events.proofs.PlaceLemmas.{value_same}
use Rattle.relay_events.proofs.StopNowLemmas.{up_there}
use Rattle.relay_events.proofs.TellLemmas.{get_within}
use Rattle.relay_events.proofs.relays.Relays.call_to_withdraw.Goals as goal

pub index_mut-requires : goal.index_mut-requires
index_mut-requires g c =
    let its = up_there g.D.Disk.honest g.D.Disk.words (world_of c.args.self.now) c.args.node 0 c.requires.up in
    let within = get_within c.args.self.now.hosts.items c.args.node its.0 its.1 in
    let len : length c.args.self.now.hosts.items ≡ vec_len c.args.self.now.hosts = search rules in
    omega (arith, within, len)

pub withdraw-requires : goal.withdraw-requires
withdraw-requires g c =
    let old = world_of c.args.self.now in
    let its = up_there g.D.Disk.honest g.D.Disk.words old c.args.node 0 c.requires.up in
    let was = c.index_mut.result.now in
    let at : was ≡ slice_index_or old.hosts c.args.node was = search rules in
    subst (λ h. HasChanges g.D.Disk.honest g.D.Disk.words h) (sym (value_same old.hosts c.args.node its.0 was its.1 at))
    (keeps_changes g.D.Disk.honest g.D.Disk.words old c.args.node its.0 c.requires.bound its.1 its.2)

pub returns-clause-called : goal.returns-clause-called
returns-clause-called g c =
    let old = world_of c.args.self.now in
    let its = up_there g.D.Disk.honest g.D.Disk.words old c.args.node 0 c.requires.up in
    let was = c.index_mut.result.now in
    let at : was ≡ slice_index_or old.hosts c.args.node was = search rules in
    let same = value_same old.hosts c.args.node its.0 was its.1 at in
    record {
      was = its.0;
      was_at = its.1;
      has = keeps_changes g.D.Disk.honest g.D.Disk.words old c.args.node its.0 c.requires.bound its.1 its.2;
      now = c.withdraw.new.self;
      gives = subst
          (λ h. GivesUpOrNot g.D.Disk.honest g.D.Disk.words (Postmaster c.args.withdrawal (c.args.place ∷ [])) old.clock h
          c.withdraw.new.self c.args.message c.withdraw.result) same c.withdraw.ensures;
      new_is = refl;
    }
