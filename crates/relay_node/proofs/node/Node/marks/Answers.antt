-- The marks are those of the records.
use Rattle.relay_node.proofs.node.Node.marks.Goals as goal

pub returns-clause-kept : goal.returns-clause-kept
returns-clause-kept g c = rw (← c.self.view_is) (λ changes keeps. c.in_ok-held.ensures.kept changes keeps)
