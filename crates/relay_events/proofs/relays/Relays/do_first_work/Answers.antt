use Rattle.std.proofs.Common.{inl, inr, ◌≡◌, length, None, Some, refl, sym, subst, ap, ◌∙◌, arith, rules}
use Rattle.std.specs.Prelude.{slice_get, slice_index_or, vec_len}
use Rattle.relay_hosts.specs.Host.{holds_up}
use Rattle.relay_events.specs.Relays.{world_of}
use Rattle.relay_hosts.specs.Work.{works_in}
use Rattle.relay_events.proofs.BoundLemmas.{keeps_changes}
use Rattle.relay_events.proofs.GiveLemmas.{no_work}
use Rattle.relay_events.proofs.PlaceLemmas.{value_same}
use Rattle.relay_events.proofs.StopNowLemmas.{up_there}
use Rattle.relay_events.proofs.TellLemmas.{get_within}
use Rattle.relay_events.proofs.relays.Relays.do_first_work.Goals as goal

pub index-requires : goal.index-requires
index-requires g c =
    let old = world_of c.args.self.now in
    let its = up_there g.D.Disk.honest g.D.Disk.words old c.args.node 0 c.requires.up in
    let within = get_within old.hosts c.args.node its.0 its.1 in
    let len : length c.args.self.now.hosts.items ≡ vec_len c.args.self.now.hosts = search rules in
    omega (arith, within, len)

pub first_work-requires : goal.first_work-requires
first_work-requires g c =
    let old = world_of c.args.self.now in
    let its = up_there g.D.Disk.honest g.D.Disk.words old c.args.node 0 c.requires.up in
    let was = c.index.result.now in
    let at : was ≡ slice_index_or old.hosts c.args.node was = search rules in
    let same = value_same old.hosts c.args.node its.0 was its.1 at in
    keeps_changes g.D.Disk.honest g.D.Disk.words old c.args.node was c.requires.order.bound
    (subst (λ h. slice_get old.hosts c.args.node ≡ Some h) (sym same) its.1) (ap (λ (h : _). holds_up h.state) same ∙ its.2)

pub returns-in-Err-clause-steps : goal.returns-in-Err-clause-steps
returns-in-Err-clause-steps g c = inr (inl (tt, inr tt, refl, refl))

pub returns-in_default-clause-steps : goal.returns-in_default-clause-steps
returns-in_default-clause-steps g c =
    let old = world_of c.args.self.now in
    let its = up_there g.D.Disk.honest g.D.Disk.words old c.args.node 0 c.requires.up in
    let was = c.index.result.now in
    let at : was ≡ slice_index_or old.hosts c.args.node was = search rules in
    let same = value_same old.hosts c.args.node its.0 was its.1 at in
    let none : slice_get (works_in old.clock was.state) 0 ≡ None = sym c.in-Ok.ensures.first ∙ c.in_default.is in
    inl (
      no_work old c.args.node was (subst (λ h. slice_get old.hosts c.args.node ≡ Some h) (sym same) its.1)
          (ap (λ (h : _). holds_up h.state) same ∙ its.2) none,
      refl,
    )

pub give_up_first-requires-clause-first : goal.give_up_first-requires-clause-first
give_up_first-requires-clause-first g c =
    let old = world_of c.args.self.now in
    let its = up_there g.D.Disk.honest g.D.Disk.words old c.args.node 0 c.requires.up in
    let was = c.index.result.now in
    let at : was ≡ slice_index_or old.hosts c.args.node was = search rules in
    let same = value_same old.hosts c.args.node its.0 was its.1 at in
    record {
      host = was;
      host_at = subst (λ h. slice_get old.hosts c.args.node ≡ Some h) (sym same) its.1;
      first = sym c.in-Ok.ensures.first ∙ c.in-Some.is ∙ ap Some c.in-NoRoute.is;
    }

pub try_first-requires-clause-first : goal.try_first-requires-clause-first
try_first-requires-clause-first g c =
    let old = world_of c.args.self.now in
    let its = up_there g.D.Disk.honest g.D.Disk.words old c.args.node 0 c.requires.up in
    let was = c.index.result.now in
    let at : was ≡ slice_index_or old.hosts c.args.node was = search rules in
    let same = value_same old.hosts c.args.node its.0 was its.1 at in
    record {
      host = was;
      host_at = subst (λ h. slice_get old.hosts c.args.node ≡ Some h) (sym same) its.1;
      first = sym c.in-Ok.ensures.first ∙ c.in-Some.is ∙ ap Some c.in-Try.is;
    }
