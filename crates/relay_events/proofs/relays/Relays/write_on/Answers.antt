use Rattle.std.proofs.Common.{◌≡◌, ◌-◌, length, ap, ◌∙◌, arith, rules}
use Rattle.std.specs.Prelude.{slice_index_or, vec_len}
use Rattle.relay_hosts.specs.Links.{has_outside}
use Rattle.relay_events.specs.Relays.{world_of}
use Rattle.relay_events.proofs.PlaceLemmas.{link_same, link_there, number_positive}
use Rattle.relay_events.proofs.SendLemmas.{unwritten_on, written_on}
use Rattle.relay_events.proofs.TellLemmas.{get_within}
use Rattle.relay_events.proofs.relays.Relays.write_on.Goals as goal

pub overflow_sub-number : goal.overflow_sub-number
overflow_sub-number g c = number_positive c.args.self.now.links.items c.args.number c.requires.link c.requires.link_is

pub index_mut-requires : goal.index_mut-requires
index_mut-requires g c =
    let links = c.args.self.now.links.items in
    let within = get_within links (c.args.number - 1) c.requires.link
    (link_there links c.args.number c.requires.link c.requires.link_is) in
    let len : length links ≡ vec_len c.args.self.now.links = search rules in
    omega (arith, within, len)

pub write_outside-requires : goal.write_outside-requires
write_outside-requires g c =
    let links = c.args.self.now.links.items in
    let read = c.index_mut.result.now in
    let at : read ≡ slice_index_or links (c.args.number - 1) read = search rules in
    ap has_outside (link_same links c.args.number c.requires.link read c.requires.link_is at) ∙ c.requires.outside

pub returns-in-Ok-clause-ok : goal.returns-in-Ok-clause-ok
returns-in-Ok-clause-ok g c =
    let old = world_of c.args.self.now in
    let read = c.index_mut.result.now in
    let at : read ≡ slice_index_or old.links (c.args.number - 1) read = search rules in
    written_on old c.args.number c.args.octets.now c.requires read c.write_outside.new.link at c.in-Ok.ensures.ok

pub returns-in-Err-clause-err : goal.returns-in-Err-clause-err
returns-in-Err-clause-err g c =
    let old = world_of c.args.self.now in
    let read = c.index_mut.result.now in
    let at : read ≡ slice_index_or old.links (c.args.number - 1) read = search rules in
    unwritten_on old c.args.number c.requires read c.write_outside.new.link at c.in-Err.ensures.err
