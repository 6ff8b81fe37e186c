use Rattle.std.proofs.Common.{None}
use Rattle.relay_node.proofs.AttemptLemmas.{begins_if}
use Rattle.relay_node.proofs.node.Node.start.Goals as goal

pub returns-clause-begins : goal.returns-clause-begins
returns-clause-begins g c = rw (← c.self.view_is) (λ changes keeps.
    begins_if c.self.inside.config changes c.args.message c.args.hop.now None c.args.now c.self.inside.records.queue c.self.inside.attempts.runs _ c.start.result keeps.fitting keeps.queue c.start.ensures.starts)

pub returns-clause-refused : goal.returns-clause-refused
returns-clause-refused g c = rw (← c.self.view_is) c.start.ensures.refused
