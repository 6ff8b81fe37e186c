use Rattle.std.proofs.Common.{◌≡◌, ◌-◌, true, false, not, length, drop, sym, ap, ◌∙◌, arith, rules}
use Rattle.std.specs.Prelude.{vec_len}
use Rattle.relay_hosts.specs.Links.{is_nil, waits_up}
use Rattle.relay_events.specs.Relays.{world_of}
use Rattle.relay_events.proofs.CarryLemmas.{carried, end_happened, end_steps, hears_at, still_told, waits_at}
use Rattle.relay_events.proofs.PlaceLemmas.{link_same, link_there, number_positive}
use Rattle.relay_events.proofs.RunLemmas.{still_bound}
use Rattle.relay_events.proofs.TellLemmas.{get_within}
use Rattle.relay_events.proofs.relays.Relays.carry_to_server.Goals as goal

pub overflow_sub-number : goal.overflow_sub-number
overflow_sub-number g c =
    let old = world_of c.args.self.now in
    let its = hears_at old c.args.number c.args.node c.args.count c.requires.none c.requires.served in
    number_positive old.links c.args.number its.link its.link_is

pub index-link-requires : goal.index-link-requires
index-link-requires g c =
    let old = world_of c.args.self.now in
    let its = hears_at old c.args.number c.args.node c.args.count c.requires.none c.requires.served in
    let within = get_within old.links (c.args.number - 1) its.link (link_there old.links c.args.number its.link its.link_is) in
    let len : length old.links ≡ vec_len c.args.self.now.links = search rules in
    omega (arith, within, len)

pub end_session-requires-clause-hears : goal.end_session-requires-clause-hears
end_session-requires-clause-hears g c =
    hears_at (world_of c.args.self.now) c.args.number c.args.node c.args.count c.requires.none c.requires.served

pub carry_octets-requires-clause-waits : goal.carry_octets-requires-clause-waits
carry_octets-requires-clause-waits g c =
    let old = world_of c.args.self.now in
    let its = carried old c.args.number c.args.node c.args.count c.requires.none c.requires.served in
    let read = c.index-link.result.now in
    let same = link_same old.links c.args.number its.link read its.link_is c.index-link.ensures in
    let some : is_nil (drop read.up_read read.up) ≡ false = search rules in
    waits_at old c.args.number c.args.node c.args.count c.requires.none c.requires.served
    (ap waits_up (sym same) ∙ ap not some)

pub returns-then-is_read-clause-steps : goal.returns-then-is_read-clause-steps
returns-then-is_read-clause-steps g c =
    let old = world_of c.args.self.now in
    let its = carried old c.args.number c.args.node c.args.count c.requires.none c.requires.served in
    let read = c.index-link.result.now in
    let same = link_same old.links c.args.number its.link read its.link_is c.index-link.ensures in
    let silent : is_nil (drop read.up_read read.up) ≡ true = search rules in
    end_steps old c.args.number c.args.node c.args.count c.requires.none c.requires.served (world_of c.end_session.new.self)
    c.end_session.ensures.told g.D.Disk.honest g.D.Disk.words (ap waits_up (sym same) ∙ ap not silent) c.requires.order.told

pub returns-then-is_read-clause-happened : goal.returns-then-is_read-clause-happened
returns-then-is_read-clause-happened g c =
    end_happened g.D.Disk.honest g.D.Disk.words (world_of c.args.self.now) (world_of c.end_session.new.self) c.args.number
    c.end_session.ensures.told

pub returns-then-is_read-clause-order : goal.returns-then-is_read-clause-order
returns-then-is_read-clause-order g c =
    let old = world_of c.args.self.now in
    let new = world_of c.end_session.new.self in
    record {
      bound = still_bound g.D.Disk.honest g.D.Disk.words c.requires.honest c.runs_keep_all.ensures old new c.requires.order.bound
          (end_happened g.D.Disk.honest g.D.Disk.words old new c.args.number c.end_session.ensures.told);
      told = still_told old c.args.number c.args.node c.args.count c.requires.none c.requires.served new c.end_session.ensures.told
          c.requires.order.told;
      room = c.end_session.ensures.room;
    }
