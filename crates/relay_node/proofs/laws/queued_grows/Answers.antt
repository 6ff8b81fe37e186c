use Rattle.relay_node.proofs.QueuedLemmas.{queued_grows}
use Rattle.relay_node.proofs.laws.queued_grows.Goals as goal

pub returns : goal.returns
returns c = queued_grows
