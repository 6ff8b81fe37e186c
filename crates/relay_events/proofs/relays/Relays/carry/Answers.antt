use Rattle.std.proofs.Common.{◌≡◌, ◌-◌, None, true, false, length, sym, ap, ◌∙◌, arith, rules}
use Rattle.std.specs.Prelude.{vec_len}
use Rattle.std.proofs.lemmas.Option.{same_Some}
use Rattle.relay_world.specs.declared.link.Link.{Link}
use Rattle.relay_world.specs.Crashes.{serves_for}
use Rattle.relay_events.specs.FirstFault.{carry_fault}
use Rattle.relay_hosts.specs.Links.{whole_link}
use Rattle.relay_events.specs.Relays.{world_of}
use Rattle.relay_events.proofs.CarriedLemmas.{runs_unserved, tries_whole}
use Rattle.relay_events.proofs.CarryLemmas.{is_carried}
use Rattle.relay_events.proofs.PlaceLemmas.{link_same, link_there, number_positive}
use Rattle.relay_events.proofs.TellLemmas.{get_within}
use Rattle.relay_events.proofs.relays.Relays.carry.Goals as goal

pub overflow_sub-number : goal.overflow_sub-number
overflow_sub-number g c =
    let old = world_of c.args.self.now in
    let none : carry_fault old (whole_link old.links c.args.number) c.args.node c.args.count ≡ None = search rules in
    let its = is_carried old old.links c.args.number c.args.node c.args.count none in
    number_positive old.links c.args.number its.link its.link_is

pub index-requires : goal.index-requires
index-requires g c =
    let old = world_of c.args.self.now in
    let none : carry_fault old (whole_link old.links c.args.number) c.args.node c.args.count ≡ None = search rules in
    let its = is_carried old old.links c.args.number c.args.node c.args.count none in
    let within = get_within old.links (c.args.number - 1) its.link (link_there old.links c.args.number its.link its.link_is) in
    let len : length old.links ≡ vec_len c.args.self.now.links = search rules in
    omega (arith, within, len)

pub carry_to_server-requires-clause-none : goal.carry_to_server-requires-clause-none
carry_to_server-requires-clause-none g c = search rules

pub carry_to_server-requires-clause-served : goal.carry_to_server-requires-clause-served
carry_to_server-requires-clause-served g c link found =
    let old = world_of c.args.self.now in
    let none : carry_fault old (whole_link old.links c.args.number) c.args.node c.args.count ≡ None = search rules in
    let its = is_carried old old.links c.args.number c.args.node c.args.count none in
    let read = c.index.result.now in
    let same = link_same old.links c.args.number its.link read its.link_is c.index.ensures in
    let serves : serves_for c.args.node read.server ≡ true = search rules in
    ap (λ (l : Link). serves_for c.args.node l.server) (same_Some link its.link (sym found ∙ its.found) ∙ sym same) ∙ serves

pub carry_to_client-requires-clause-tries : goal.carry_to_client-requires-clause-tries
carry_to_client-requires-clause-tries g c =
    let old = world_of c.args.self.now in
    let none : carry_fault old (whole_link old.links c.args.number) c.args.node c.args.count ≡ None = search rules in
    let read = c.index.result.now in
    let off : serves_for c.args.node read.server ≡ false = search rules in
    tries_whole old c.args.number c.args.node
    (runs_unserved old c.args.number c.args.node c.args.count none read c.index.ensures off)

pub returns-clause-steps : goal.returns-clause-steps
returns-clause-steps g c =
    let old = world_of c.args.self.now in
    let none : carry_fault old (whole_link old.links c.args.number) c.args.node c.args.count ≡ None = search rules in
    let read = c.index.result.now in
    let off : serves_for c.args.node read.server ≡ false = search rules in
    c.carry_to_client.ensures.steps c.args.node none
    (runs_unserved old c.args.number c.args.node c.args.count none read c.index.ensures off)
