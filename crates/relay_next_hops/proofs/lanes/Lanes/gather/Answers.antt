-- The numbers are those of the node's held places.
use Rattle.std.proofs.Common.{ap, ◌∙◌}
use Rattle.relay_node.specs.Node.{NodeState}
use Rattle.relay_book.specs.Queue.{held_of}
use Rattle.relay_next_hops.proofs.KnownLemmas.{gathered_is}
use Rattle.relay_next_hops.proofs.lanes.Lanes.gather.Goals as goal

pub returns-in-Ok-of_places-clause-gathers : goal.returns-in-Ok-of_places-clause-gathers
returns-in-Ok-of_places-clause-gathers g c =
    gathered_is c.args.self.now c.in-Ok-of_places.numbers c.args.relay.now.node.records.queue c.as_slice.result.now
    (c.as_slice.ensures.value ∙ c.in-Ok.ensures.marks ∙ ap (λ (node : NodeState _). held_of node.records.queue) c.node.ensures)
    c.in-Ok-of_places.ensures.numbers c.in-Ok-of_places.ensures.rest.0 c.in-Ok-of_places.ensures.rest.1
