-- The other sessions keep what was said on them.
use Rattle.relay_node.proofs.NodeLemmas.{rest_has_histories}
use Rattle.relay_node.proofs.node.Node.ended.Goals as goal

pub invariant_of-self-2 : goal.invariant_of-self-2
invariant_of-self-2 g c = (rest_has_histories c.self.inside.config c.self.inside.seats _ c.args.session c.take.ensures.rest c.self.invariant.0, c.self.invariant.1)
