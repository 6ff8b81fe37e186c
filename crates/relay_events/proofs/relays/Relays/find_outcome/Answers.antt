use Rattle.std.proofs.Common.{◌≡◌, ◌+◌, ◌-◌, ◌++◌, sym, subst, ap, ◌∙◌, length, arith, rules}
use Rattle.std.specs.Prelude.{◌≤◌, slice_index_or, vec_len}
use Rattle.relay_world.specs.declared.attempt.Attempt.{Attempt}
use Rattle.relay_world.specs.declared.link.Link.{Link}
use Rattle.relay_world.specs.Ledger.{left_lines, report_told}
use Rattle.relay_events.specs.Relays.{world_of}
use Rattle.relay_events.proofs.PlaceLemmas.{link_same, value_same}
use Rattle.relay_events.proofs.TellLemmas.{get_within}
use Rattle.relay_events.proofs.RestartLemmas.{outcome_found}
use Rattle.relay_events.proofs.relays.Relays.find_outcome.Goals as goal

pub read_down-requires : goal.read_down-requires
read_down-requires g c =
    let there = c.requires.there in
    let read = c.index_mut.result.now in
    let links = c.args.self.now.links.items in
    let at : read ≡ slice_index_or links (c.args.number - 1) read = search rules in
    subst (λ (l : Link). l.down_read + c.args.note.now.used ≤ length l.down)
    (sym (link_same links c.args.number there.link read there.link_is at)) there.within

pub index_mut-requires-2 : goal.index_mut-requires-2
index_mut-requires-2 g c =
    let there = c.requires.there in
    let within = get_within c.args.self.now.attempts.items c.args.place there.attempt there.attempt_at in
    let len : length c.args.self.now.attempts.items ≡ vec_len c.args.self.now.attempts = search rules in
    omega (arith, within, len)

pub returns-clause-finds : goal.returns-clause-finds
returns-clause-finds g c =
    let there = c.requires.there in
    let read = c.index_mut.result.now in
    let ended = c.index_mut-2.result.now in
    let links = c.args.self.now.links.items in
    let attempts = c.args.self.now.attempts.items in
    let at : read ≡ slice_index_or links (c.args.number - 1) read = search rules in
    let ended_at : ended ≡ slice_index_or attempts c.args.place ended = search rules in
    let same = link_same links c.args.number there.link read there.link_is at in
    let same_attempt = value_same attempts c.args.place there.attempt ended there.attempt_at ended_at in
    let used = c.args.note.now.used in
    let moved : c.read_down.new.link ≡ record there.link { down_read = there.link.down_read + used } =
    c.read_down.ensures ∙ ap (λ (l : Link). record l { down_read = l.down_read + used }) same in
    let told = report_told c.args.note.now.number c.args.note.now.report in
    let lines : c.push_left.new.ledger.items
    ≡ c.args.self.now.ledger.items
    ++ left_lines c.args.node c.args.message c.args.number told c.args.note.now.left.items = search rules in
    outcome_found (world_of c.args.self.now) c.args.number c.args.place used c.args.fate
    (left_lines c.args.node c.args.message c.args.number told c.args.note.now.left.items) there.link c.read_down.new.link
    there.attempt (record ended { fate = c.args.fate }) c.push_left.new.ledger.items there.link_is moved there.attempt_at
    (ap (λ (a : Attempt). record a { fate = c.args.fate }) same_attempt) c.requires.over lines
