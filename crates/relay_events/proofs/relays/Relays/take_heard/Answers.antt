use Rattle.std.proofs.Common.{◌≡◌, ◌≤◌, ◌+◌, ◌-◌, length, subst, sym, ap, ◌∙◌, arith, rules}
use Rattle.std.specs.Prelude.{slice_index_or, vec_len}
use Rattle.relay_world.specs.declared.link.Link.{Link}
use Rattle.relay_world.specs.HangUp.{broken_link}
use Rattle.relay_hosts.specs.Heard.{heard_on}
use Rattle.relay_events.specs.Relays.{world_of}
use Rattle.relay_events.proofs.HearLemmas.{takes_broken, takes_whole}
use Rattle.relay_events.proofs.PlaceLemmas.{link_same, link_there, number_positive}
use Rattle.relay_events.proofs.TellLemmas.{get_within}
use Rattle.relay_events.proofs.relays.Relays.take_heard.Goals as goal

pub overflow_sub-number : goal.overflow_sub-number
overflow_sub-number g c =
    number_positive c.args.self.now.links.items c.args.number c.requires.there.link c.requires.there.link_is

pub index_mut-requires : goal.index_mut-requires
index_mut-requires g c =
    let there = c.requires.there in
    let links = c.args.self.now.links.items in
    let within = get_within links (c.args.number - 1) there.link (link_there links c.args.number there.link there.link_is) in
    let len : length links ≡ vec_len c.args.self.now.links = search rules in
    omega (arith, within, len)

pub answer_on-requires-clause-whole : goal.answer_on-requires-clause-whole
answer_on-requires-clause-whole g c =
    let there = c.requires.there in
    let links = c.args.self.now.links.items in
    let read = c.index_mut.result.now in
    let at : read ≡ slice_index_or links (c.args.number - 1) read = search rules in
    ap (λ (l : Link). l.broken) (link_same links c.args.number there.link read there.link_is at) ∙ there.whole

pub answer_on-requires-clause-within : goal.answer_on-requires-clause-within
answer_on-requires-clause-within g c =
    let there = c.requires.there in
    let links = c.args.self.now.links.items in
    let read = c.index_mut.result.now in
    let at : read ≡ slice_index_or links (c.args.number - 1) read = search rules in
    subst (λ (l : Link). l.up_read + c.args.received.now.used ≤ length l.up)
    (sym (link_same links c.args.number there.link read there.link_is at)) there.within

pub returns-in-Ok-clause-takes : goal.returns-in-Ok-clause-takes
returns-in-Ok-clause-takes g c =
    let there = c.requires.there in
    let links = c.args.self.now.links.items in
    let read = c.index_mut.result.now in
    let at : read ≡ slice_index_or links (c.args.number - 1) read = search rules in
    let same = link_same links c.args.number there.link read there.link_is at in
    let out : c.len.result ≡ length c.args.received.now.out.items = search rules in
    takes_whole (world_of c.args.self.now) c.args.number c.args.node c.args.received.now c.args.recorded.now there.link there.link_is
    there.whole c.answer_on.new.link (c.in-Ok.ensures.ok ∙ ap (λ (l : Link). heard_on l c.args.received.now) same)
    c.push_accept.new.ledger.items c.push_accept.ensures.items c.len.result out

pub returns-in-Err-clause-takes : goal.returns-in-Err-clause-takes
returns-in-Err-clause-takes g c =
    let there = c.requires.there in
    let links = c.args.self.now.links.items in
    let read = c.index_mut.result.now in
    let at : read ≡ slice_index_or links (c.args.number - 1) read = search rules in
    let same = link_same links c.args.number there.link read there.link_is at in
    takes_broken (world_of c.args.self.now) c.args.number c.args.node c.args.received.now c.args.recorded.now there.link
    there.link_is there.whole c.answer_on.new.link
    (c.in-Err.ensures.err ∙ ap (λ (l : Link). heard_on (broken_link l) c.args.received.now) same)
    c.push_accept.new.ledger.items c.push_accept.ensures.items c.in-Err.ensures.answers
