-- The node's queue is known, and its next number.
use Rattle.std.proofs.Common.{inl, inr, ap, ◌∙◌}
use Rattle.relay_node.specs.Node.{NodeState}
use Rattle.relay_next_hops.proofs.KnownLemmas.{gathered_not, gathered_so, learned_is}
use Rattle.relay_next_hops.proofs.lanes.Lanes.prepare.Goals as goal

pub returns-then-not-branch-clause-learns : goal.returns-then-not-branch-clause-learns
returns-then-not-branch-clause-learns g c =
    inr (gathered_not _ c.args.relay.now.node.records.queue c.args.self.now c.gather.new.self c.if-not-branch.true c.in_ok-gather.ensures.gathers)

pub returns-clause-learns : goal.returns-clause-learns
returns-clause-learns g c =
    inl (learned_is c.args.relay.now.node.records.queue c.args.self.now c.gather.new.self c.next_number-self.result
    (gathered_so _ c.args.relay.now.node.records.queue c.args.self.now c.gather.new.self c.if-not-branch.false c.in_ok-gather.ensures.gathers)
    (c.next_number-self.ensures.number ∙ ap (λ (node : NodeState _). node.records.queue.next) c.node.ensures))
