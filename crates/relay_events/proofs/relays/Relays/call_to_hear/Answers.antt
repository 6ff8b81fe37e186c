use Rattle.std.proofs.Common.{◌≡◌, ◌≤◌, ◌-◌, take, drop, length, refl, subst, sym, ap, ◌∙◌, arith, rules}
use Rattle.std.specs.Prelude.{slice_index_or, vec_len}
use Rattle.relay_world.specs.declared.link.Link.{Link}
use Rattle.relay_world.specs.Steps.{waiting_up}
use Rattle.relay_hosts.specs.Call.{HasSession, HearsOrNot}
use Rattle.relay_events.specs.Relays.{world_of}
use Rattle.relay_hosts.specs.Links.{hears_on}
use Rattle.relay_events.proofs.EndLemmas.{no_server, no_session, serves_there}
use Rattle.relay_events.proofs.PlaceLemmas.{link_same, link_there, number_positive, value_same}
use Rattle.relay_events.proofs.TellLemmas.{get_within}
use Rattle.relay_events.proofs.relays.Relays.call_to_hear.Goals as goal

pub overflow_sub-number : goal.overflow_sub-number
overflow_sub-number g c =
    number_positive c.args.self.now.links.items c.args.number c.requires.hears.link c.requires.hears.link_is

pub index-link-requires : goal.index-link-requires
index-link-requires g c =
    let there = c.requires.hears in
    let links = c.args.self.now.links.items in
    let within = get_within links (c.args.number - 1) there.link (link_there links c.args.number there.link there.link_is) in
    let len : length links ≡ vec_len c.args.self.now.links = search rules in
    omega (arith, within, len)

pub unreachable-requires : goal.unreachable-requires
unreachable-requires g c =
    let there = c.requires.hears in
    let read = c.index-link.result.now in
    let same = link_same c.args.self.now.links.items c.args.number there.link read there.link_is c.index-link.ensures in
    no_server read.server c.in_default.is (ap (λ (l : Link). hears_on l.server) same ∙ there.hears)

pub unreachable-requires-in_default-session : goal.unreachable-requires-in_default-session
unreachable-requires-in_default-session g c =
    let there = c.requires.hears in
    let read = c.index-link.result.now in
    let same = link_same c.args.self.now.links.items c.args.number there.link read there.link_is c.index-link.ensures in
    no_session read.server c.in-Some.end c.in-Some.is c.in_default-session.is
    (ap (λ (l : Link). hears_on l.server) same ∙ there.hears)

pub waiting-piece-requires : goal.waiting-piece-requires
waiting-piece-requires g c =
    let there = c.requires.hears in
    let read = c.index-link.result.now in
    let same = link_same c.args.self.now.links.items c.args.number there.link read there.link_is c.index-link.ensures in
    let reads = (c.requires.bound.bound.reads c.args.number there.link there.link_is).up in
    let fits : read.up_read ≤ length read.up = subst (λ (l : Link). l.up_read ≤ length l.up) (sym same) reads in
    subst (λ l. read.up_read ≤ length l) (sym c.as_slice.ensures) fits

pub index_mut-requires : goal.index_mut-requires
index_mut-requires g c =
    let there = c.requires.hears in
    let read = c.index-link.result.now in
    let same = link_same c.args.self.now.links.items c.args.number there.link read there.link_is c.index-link.ensures in
    let its = serves_there g.D.Disk.honest g.D.Disk.words (world_of c.args.self.now) c.requires.bound.lists c.args.number
    there.link c.in-Some.end c.in-Some-session.session c.requires.bound.bound there.link_is
    (ap (λ (l : Link). l.server) (sym same) ∙ c.in-Some.is) c.in-Some-session.is in
    let within = get_within c.args.self.now.hosts.items c.in-Some.end.node its.host its.host_at in
    let len : length c.args.self.now.hosts.items ≡ vec_len c.args.self.now.hosts = search rules in
    omega (arith, within, len)

pub hear-requires : goal.hear-requires
hear-requires g c =
    let there = c.requires.hears in
    let read = c.index-link.result.now in
    let hosts = c.args.self.now.hosts.items in
    let same = link_same c.args.self.now.links.items c.args.number there.link read there.link_is c.index-link.ensures in
    let its = serves_there g.D.Disk.honest g.D.Disk.words (world_of c.args.self.now) c.requires.bound.lists c.args.number
    there.link c.in-Some.end c.in-Some-session.session c.requires.bound.bound there.link_is
    (ap (λ (l : Link). l.server) (sym same) ∙ c.in-Some.is) c.in-Some-session.is in
    let at : c.index_mut.result.now ≡ slice_index_or hosts c.in-Some.end.node c.index_mut.result.now = search rules in
    subst (λ h. HasSession g.D.Disk.honest g.D.Disk.words h c.in-Some-session.session)
    (sym (value_same hosts c.in-Some.end.node its.host c.index_mut.result.now its.host_at at)) its.has

pub returns-clause-called : goal.returns-clause-called
returns-clause-called g c =
    let there = c.requires.hears in
    let read = c.index-link.result.now in
    let hosts = c.args.self.now.hosts.items in
    let end = c.in-Some.end in
    let session = c.in-Some-session.session in
    let same = link_same c.args.self.now.links.items c.args.number there.link read there.link_is c.index-link.ensures in
    let serves = ap (λ (l : Link). l.server) (sym same) ∙ c.in-Some.is in
    let its = serves_there g.D.Disk.honest g.D.Disk.words (world_of c.args.self.now) c.requires.bound.lists c.args.number
    there.link end session c.requires.bound.bound there.link_is serves c.in-Some-session.is in
    let was = c.index_mut.result.now in
    let at : was ≡ slice_index_or hosts end.node was = search rules in
    let host_same = value_same hosts end.node its.host was its.host_at at in
    let clock = c.args.self.now.clock in
    let result = c.hear.result in
    let piece : c.waiting-piece.result.now ≡ waiting_up c.args.count there.link =
    c.waiting-piece.ensures ∙ ap (λ l. take c.args.count (drop read.up_read l)) c.as_slice.ensures
    ∙ ap (λ (l : Link). waiting_up c.args.count l) same in
    record {
      of = record {
        link = there.link;
        link_is = there.link_is;
        end = end;
        serves = serves;
        session = session;
        goes_on = c.in-Some-session.is;
        host = its.host;
        host_at = its.host_at;
        before = its.before;
        up = its.up;
      };
      now = c.hear.new.self;
      hears = subst
          (λ h. HearsOrNot g.D.Disk.honest g.D.Disk.words clock h c.hear.new.self session (waiting_up c.args.count there.link) result)
          host_same (subst (λ p. HearsOrNot g.D.Disk.honest g.D.Disk.words clock was c.hear.new.self session p result) piece c.hear.ensures);
      new_is = refl;
    }
