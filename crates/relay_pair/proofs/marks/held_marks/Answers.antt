use Rattle.std.proofs.Common.{◌≡◌, ◌<◌, ◌≤◌, ◌++◌, ◌∙◌, ap, sym, length, map, rules}
use Rattle.std.proofs.lemmas.Option.{slice_get-get_or}
use Rattle.std.specs.Prelude.{slice_get, slice_index_or, Some}
use Rattle.relay_pair.specs.Marks.{mark_of}
use Rattle.relay_events.specs.Relays.{world_of}
use Rattle.relay_hosts.specs.Work.{marks_in}
use Rattle.relay_pair.proofs.MarkLemmas.{all_marked, knows_if_up, one_more}
use Rattle.relay_pair.proofs.marks.held_marks.Goals as goal

pub marks-requires : goal.marks-requires
marks-requires g c =
    let host = c.host-item.result in
    let within : c.loop-node.node < length c.args.relays.now.hosts.items = search rules in
    let there : host ≡ slice_index_or c.args.relays.now.hosts.items c.loop-node.node host = search rules in
    let at : slice_get c.args.relays.now.hosts.items c.loop-node.node ≡ Some host =
    slice_get-get_or c.args.relays.now.hosts.items c.loop-node.node host within ∙ ap (λ h. Some h) (sym there) in
    knows_if_up g.D.Disk.honest g.D.Disk.words (world_of c.args.relays.now) c.loop-node.node c.host-item.result c.requires at

pub loop-node-preserved : goal.loop-node-preserved
loop-node-preserved g c =
    let host = c.host-item.result in
    let within : c.loop-node.node < length c.args.relays.now.hosts.items = search rules in
    let there : host ≡ slice_index_or c.args.relays.now.hosts.items c.loop-node.node host = search rules in
    let its : c.in-Ok.held.items ≡ marks_in host.state = search rules in
    let added : c.push_marks.new.marks.items ≡ c.loop-node.marks.items ++ map (mark_of c.loop-node.node) c.in-Ok.held.items
    = search rules in
    one_more c.args.relays.now.hosts.items c.loop-node.node host c.loop-node.marks.items c.push_marks.new.marks.items
    c.in-Ok.held.items _ within there its added c.loop-node.invariant

pub returns : goal.returns
returns g c =
    let past : length c.args.relays.now.hosts.items ≤ c.loop-node.node = search rules in
    all_marked c.args.relays.now.hosts.items c.loop-node.node c.loop-node.marks.items _ past c.loop-node.invariant
