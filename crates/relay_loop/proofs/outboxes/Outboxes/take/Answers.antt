use Rattle.relay_loop.proofs.OutboxLemmas.{within_of}
use Rattle.relay_loop.proofs.outboxes.Outboxes.take.Goals as goal

pub returns-clause-within : goal.returns-clause-within
returns-clause-within c = within_of c.self.inside.slots c.args.number c.take.result c.self.invariant c.take.ensures.taken
