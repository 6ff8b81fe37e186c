use Rattle.std.proofs.Common.{◌≡◌, length, refl, subst, sym, ap, ◌∙◌, arith, rules}
use Rattle.std.specs.Prelude.{None, Some, slice_get, slice_index_or, vec_len}
use Rattle.relay_world.specs.World.{Host}
use Rattle.relay_hosts.specs.Host.{holds_up}
use Rattle.relay_events.specs.FirstFault.{unless_up}
use Rattle.relay_events.specs.Relays.{free_lines, world_of}
use Rattle.relay_events.proofs.PlaceLemmas.{value_same}
use Rattle.relay_events.proofs.StopNowLemmas.{arm_refused, armed_bound, armed_happened, armed_room, armed_steps, up_there}
use Rattle.relay_events.proofs.TellLemmas.{get_within}
use Rattle.relay_events.proofs.relays.Relays.arm.Goals as goal

pub index_mut-requires : goal.index_mut-requires
index_mut-requires g c =
    let old = world_of c.args.self.now in
    let none : unless_up old c.args.node None ≡ None = search rules in
    let its = up_there g.D.Disk.honest g.D.Disk.words old c.args.node c.args.pick none in
    let within = get_within old.hosts c.args.node its.0 its.1 in
    let len : length c.args.self.now.hosts.items ≡ vec_len c.args.self.now.hosts = search rules in
    omega (arith, within, len)

pub arm-requires : goal.arm-requires
arm-requires g c =
    let old = world_of c.args.self.now in
    let none : unless_up old c.args.node None ≡ None = search rules in
    let its = up_there g.D.Disk.honest g.D.Disk.words old c.args.node c.args.pick none in
    let was = c.index_mut.result.now in
    let at : was ≡ slice_index_or old.hosts c.args.node was = search rules in
    ap (λ (h : Host _). holds_up h.state) (value_same old.hosts c.args.node its.0 was its.1 at) ∙ its.2

pub returns-in-Some-clause-steps : goal.returns-in-Some-clause-steps
returns-in-Some-clause-steps g c =
    let old = world_of c.args.self.now in
    let is : unless_up old c.args.node None ≡ Some c.in-Some.fault = search rules in
    arm_refused g.D.Disk.honest g.D.Disk.words old c.args.node c.args.pick c.args.calls c.in-Some.fault c.requires.later is

pub returns-clause-steps : goal.returns-clause-steps
returns-clause-steps g c =
    let old = world_of c.args.self.now in
    let none : unless_up old c.args.node None ≡ None = search rules in
    let its = up_there g.D.Disk.honest g.D.Disk.words old c.args.node c.args.pick none in
    let was = c.index_mut.result.now in
    let at : was ≡ slice_index_or old.hosts c.args.node was = search rules in
    let was_at = subst (λ h. slice_get old.hosts c.args.node ≡ Some h) (sym (value_same old.hosts c.args.node its.0 was its.1 at)) its.1 in
    armed_steps g.D.Disk.honest g.D.Disk.words old c.args.node c.args.pick was c.arm.new.self was_at _ c.arm.ensures c.args.calls
    c.requires.later refl none c.requires.order.told

pub returns-clause-happened : goal.returns-clause-happened
returns-clause-happened g c =
    let old = world_of c.args.self.now in
    let none : unless_up old c.args.node None ≡ None = search rules in
    let its = up_there g.D.Disk.honest g.D.Disk.words old c.args.node c.args.pick none in
    let was = c.index_mut.result.now in
    let at : was ≡ slice_index_or old.hosts c.args.node was = search rules in
    let was_at = subst (λ h. slice_get old.hosts c.args.node ≡ Some h) (sym (value_same old.hosts c.args.node its.0 was its.1 at)) its.1 in
    armed_happened g.D.Disk.honest g.D.Disk.words old c.args.node c.args.pick was c.arm.new.self was_at _ c.arm.ensures

pub returns-clause-order : goal.returns-clause-order
returns-clause-order g c =
    let old = world_of c.args.self.now in
    let none : unless_up old c.args.node None ≡ None = search rules in
    let its = up_there g.D.Disk.honest g.D.Disk.words old c.args.node c.args.pick none in
    let was = c.index_mut.result.now in
    let at : was ≡ slice_index_or old.hosts c.args.node was = search rules in
    let was_at = subst (λ h. slice_get old.hosts c.args.node ≡ Some h) (sym (value_same old.hosts c.args.node its.0 was its.1 at)) its.1 in
    record {
      bound = armed_bound g.D.Disk.honest g.D.Disk.words old c.args.node c.args.pick was c.arm.new.self was_at _ c.arm.ensures
          c.requires.honest c.runs_keep_all.ensures c.requires.order.bound;
      told = c.requires.order.told;
      room = armed_room g.D.Disk.honest g.D.Disk.words old c.args.node c.args.pick was c.arm.new.self was_at _ c.arm.ensures
          (free_lines c.args.self.now) c.requires.order.room;
    }
