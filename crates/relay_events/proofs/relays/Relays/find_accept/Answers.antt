use Rattle.std.proofs.Common.{◌≡◌, ◌+◌, ◌-◌, ◌++◌, [], ◌∷◌, sym, subst, ap, ◌∙◌, length, rules}
use Rattle.std.specs.Prelude.{◌≤◌, slice_index_or}
use Rattle.relay_world.specs.declared.line.Line.TheVariants.{Accepted}
use Rattle.relay_world.specs.declared.link.Link.{Link}
use Rattle.relay_events.specs.Relays.{world_of}
use Rattle.relay_events.proofs.PlaceLemmas.{link_same}
use Rattle.relay_events.proofs.RestartLemmas.{accept_found}
use Rattle.relay_events.proofs.relays.Relays.find_accept.Goals as goal

pub read_up-requires : goal.read_up-requires
read_up-requires g c =
    let there = c.requires.there in
    let read = c.index_mut.result.now in
    let links = c.args.self.now.links.items in
    let at : read ≡ slice_index_or links (c.args.number - 1) read = search rules in
    subst (λ (l : Link). l.up_read + c.args.note.now.used ≤ length l.up)
    (sym (link_same links c.args.number there.link read there.link_is at)) there.within

pub returns-clause-finds : goal.returns-clause-finds
returns-clause-finds g c =
    let there = c.requires.there in
    let read = c.index_mut.result.now in
    let links = c.args.self.now.links.items in
    let at : read ≡ slice_index_or links (c.args.number - 1) read = search rules in
    let same = link_same links c.args.number there.link read there.link_is at in
    let used = c.args.note.now.used in
    let moved : c.read_up.new.link ≡ record there.link { up_read = there.link.up_read + used } =
    c.read_up.ensures ∙ ap (λ (l : Link). record l { up_read = l.up_read + used }) same in
    let lines : c.push.new.self.items
    ≡ c.args.self.now.ledger.items
    ++ Accepted c.args.node c.args.note.now.number c.args.note.now.accepted c.args.number ∷ [] = search rules in
    accept_found (world_of c.args.self.now) c.args.node c.args.number c.args.note.now there.link c.read_up.new.link
    c.push.new.self.items there.link_is moved lines
