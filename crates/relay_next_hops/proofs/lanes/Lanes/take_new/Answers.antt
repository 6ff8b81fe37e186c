-- All that have come are listed, up to the node's next number.
use Rattle.std.proofs.Common.{ℕ, ap, subst, ◌∙◌}
use Rattle.relay_node.specs.Node.{NodeState}
use Rattle.relay_next_hops.specs.Listing.{AreListedFrom}
use Rattle.relay_next_hops.proofs.lanes.Lanes.take_new.Goals as goal

pub returns-clause-listed : goal.returns-clause-listed
returns-clause-listed g c = λ known.
    subst (λ (next : ℕ). AreListedFrom c.args.hops.now.hops c.args.now.now.moment c.args.relay.now.node c.args.self.now.next_number next c.take_up_to.new.self)
    (c.next_number-next_number.ensures.number ∙ ap (λ (node : NodeState _). node.records.queue.next) c.node.ensures) (c.take_up_to.ensures.listed known)

pub returns-clause-known : goal.returns-clause-known
returns-clause-known g c = λ started before. c.take_up_to.ensures.known started before
