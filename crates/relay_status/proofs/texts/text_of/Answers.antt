-- the list of the queue is that of the relay's node and of the last count
use Rattle.std.proofs.Common.{refl, ap, ◌∙◌}
use Rattle.relay_page.specs.Listing.{listing}
use Rattle.relay_status.proofs.texts.text_of.Goals as goal

pub returns-in_ok-list_of-in-Queue : goal.returns-in_ok-list_of-in-Queue
returns-in_ok-list_of-in-Queue c =
    let state = c.args.state.now in
    let node = ap (λ node. listing state.now node.config.routes node.records.queue c.marks-marks.result.now) c.node-node.ensures in
    let marks = ap (listing state.now state.relay.now.node.config.routes state.relay.now.node.records.queue) c.marks-marks.ensures in
    record { queue = λ is. (refl, c.in_ok-list_of-in-Queue.ensures ∙ node ∙ marks) }
