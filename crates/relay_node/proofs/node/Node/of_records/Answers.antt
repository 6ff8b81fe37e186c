-- Nothing was said on free seats, and no attempt runs.
use Rattle.relay_node.proofs.NodeLemmas.{free_histories}
use Rattle.relay_node.proofs.node.Node.of_records.Goals as goal

pub invariant_of-result : goal.invariant_of-result
invariant_of-result g c = (free_histories c.args.config c.in-Ok.seats c.in-Ok.ensures.free, c.in-Ok-new.ensures.serves c.args.config.host)
