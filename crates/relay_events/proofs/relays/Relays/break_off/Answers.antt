use Rattle.std.proofs.Common.{◌≡◌, ◌-◌, length, ap, ◌∙◌, arith, rules}
use Rattle.std.specs.Prelude.{slice_index_or, vec_len}
use Rattle.relay_world.specs.declared.link.Link.{Link}
use Rattle.relay_world.specs.HangUp.{broken_link}
use Rattle.relay_events.specs.Relays.{world_of}
use Rattle.relay_events.proofs.BreakLemmas.{breaks_there}
use Rattle.relay_events.proofs.PlaceLemmas.{link_same, link_there, number_positive}
use Rattle.relay_events.proofs.TellLemmas.{get_within}
use Rattle.relay_events.proofs.relays.Relays.break_off.Goals as goal

pub overflow_sub-number : goal.overflow_sub-number
overflow_sub-number g c = number_positive c.args.self.now.links.items c.args.number c.requires.link c.requires.link_is

pub index_mut-requires : goal.index_mut-requires
index_mut-requires g c =
    let links = c.args.self.now.links.items in
    let within = get_within links (c.args.number - 1) c.requires.link
    (link_there links c.args.number c.requires.link c.requires.link_is) in
    let len : length links ≡ vec_len c.args.self.now.links = search rules in
    omega (arith, within, len)

pub returns-clause-world : goal.returns-clause-world
returns-clause-world g c =
    let old = world_of c.args.self.now in
    let read = c.index_mut.result.now in
    let at : read ≡ slice_index_or old.links (c.args.number - 1) read = search rules in
    let same = link_same old.links c.args.number c.requires.link read c.requires.link_is at in
    breaks_there old c.args.number c.requires.link c.break_off.new.link c.requires.link_is
    (c.break_off.ensures ∙ ap (λ (l : Link). broken_link l) same)
