use Rattle.std.proofs.Common.{◌≡◌, ◌-◌, true, Option, length, subst, sym, ap, ◌∙◌, arith, rules}
use Rattle.std.specs.Prelude.{None, Some, slice_get, slice_index_or, vec_len}
use Rattle.std.specs.Option.{option_map}
use Rattle.relay_world.specs.declared.link.Link.{Link}
use Rattle.relay_world.specs.declared.link.ServerEnd.{ServerEnd}
use Rattle.relay_hosts.specs.Call.{HasSession}
use Rattle.relay_hosts.specs.Heard.{end_after}
use Rattle.relay_events.specs.Relays.{free_lines, world_of}
use Rattle.relay_hosts.specs.Links.{hears_on}
use Rattle.relay_events.proofs.EndLemmas.{ended_fewer, ended_room, has_ended, no_server, no_session, serves_there}
use Rattle.relay_events.proofs.PlaceLemmas.{link_same, value_same}
use Rattle.relay_events.proofs.TellLemmas.{get_within}
use Rattle.relay_events.proofs.relays.Relays.end_session.Goals as goal

-- a link whose server end has closed, and one with the server end that was closed
abbrev closed : Link → Link
closed link = record link { server = option_map (end_after true) link.server }

abbrev closed_at : Link → Option ServerEnd → Link
closed_at link server = record link { server = option_map (end_after true) server }

pub unreachable-requires : goal.unreachable-requires
unreachable-requires g c =
    let there = c.requires.hears in
    let same = link_same c.args.self.now.links.items c.args.number there.link c.index.result.now there.link_is c.index.ensures in
    no_server c.index.result.now.server c.in_default.is (ap (λ (l : Link). hears_on l.server) same ∙ there.hears)

pub unreachable-requires-in_default-session : goal.unreachable-requires-in_default-session
unreachable-requires-in_default-session g c =
    let there = c.requires.hears in
    let same = link_same c.args.self.now.links.items c.args.number there.link c.index.result.now there.link_is c.index.ensures in
    no_session c.index.result.now.server c.in-Some.end c.in-Some.is c.in_default-session.is
    (ap (λ (l : Link). hears_on l.server) same ∙ there.hears)

pub end-requires : goal.end-requires
end-requires g c =
    let there = c.requires.hears in
    let hosts = c.args.self.now.hosts.items in
    let same = link_same c.args.self.now.links.items c.args.number there.link c.index.result.now there.link_is c.index.ensures in
    let its = serves_there g.D.Disk.honest g.D.Disk.words (world_of c.args.self.now) c.requires.bound.lists c.args.number
    there.link c.in-Some.end c.in-Some-session.session c.requires.bound.bound there.link_is
    (ap (λ (l : Link). l.server) (sym same) ∙ c.in-Some.is) c.in-Some-session.is in
    let at : c.index_mut.result.now ≡ slice_index_or hosts c.in-Some.end.node c.index_mut.result.now = search rules in
    subst (λ h. HasSession g.D.Disk.honest g.D.Disk.words h c.in-Some-session.session)
    (sym (value_same hosts c.in-Some.end.node its.host c.index_mut.result.now its.host_at at)) its.has

pub index_mut-requires : goal.index_mut-requires
index_mut-requires g c =
    let there = c.requires.hears in
    let same = link_same c.args.self.now.links.items c.args.number there.link c.index.result.now there.link_is c.index.ensures in
    let its = serves_there g.D.Disk.honest g.D.Disk.words (world_of c.args.self.now) c.requires.bound.lists c.args.number
    there.link c.in-Some.end c.in-Some-session.session c.requires.bound.bound there.link_is
    (ap (λ (l : Link). l.server) (sym same) ∙ c.in-Some.is) c.in-Some-session.is in
    let within = get_within c.args.self.now.hosts.items c.in-Some.end.node its.host its.host_at in
    let len : length c.args.self.now.hosts.items ≡ vec_len c.args.self.now.hosts = search rules in
    omega (arith, within, len)

pub returns : goal.returns
returns g c =
    let there = c.requires.hears in
    let old = world_of c.args.self.now in
    let links = c.args.self.now.links.items in
    let hosts = c.args.self.now.hosts.items in
    let end = c.in-Some.end in
    let session = c.in-Some-session.session in
    let same = link_same links c.args.number there.link c.index.result.now there.link_is c.index.ensures in
    let serves = ap (λ (l : Link). l.server) (sym same) ∙ c.in-Some.is in
    let its = serves_there g.D.Disk.honest g.D.Disk.words old c.requires.bound.lists c.args.number there.link end session
    c.requires.bound.bound there.link_is serves c.in-Some-session.is in
    let at : c.index_mut.result.now ≡ slice_index_or hosts end.node c.index_mut.result.now = search rules in
    let host_same = value_same hosts end.node its.host c.index_mut.result.now its.host_at at in
    let was_at : slice_get hosts end.node ≡ Some c.index_mut.result.now =
    subst (λ h. slice_get hosts end.node ≡ Some h) (sym host_same) its.host_at in
    let read = c.index_mut-2.result.now in
    let read_at : read ≡ slice_index_or links (c.args.number - 1) read = search rules in
    let read_same = link_same links c.args.number there.link read there.link_is read_at in
    let moved = c.close_server.new.link in
    let moved_is : moved ≡ record there.link { server = Some (record end { session = None }) } =
    c.close_server.ensures ∙ ap (λ (l : Link). closed l) read_same ∙ ap (λ s. closed_at there.link s) serves in
    record {
      told = has_ended old c.args.number there.link there.link_is end serves session c.in-Some-session.is
          c.index_mut.result.now c.end.new.self was_at c.end.ensures moved moved_is;
      room = ended_room old c.args.number there.link there.link_is end serves session c.in-Some-session.is
          c.index_mut.result.now c.end.new.self was_at c.end.ensures moved moved_is (free_lines c.args.self.now) c.requires.room;
      fewer = ended_fewer old c.args.number there.link there.link_is end serves session c.in-Some-session.is
          c.index_mut.result.now c.end.new.self was_at c.end.ensures moved moved_is;
    }
