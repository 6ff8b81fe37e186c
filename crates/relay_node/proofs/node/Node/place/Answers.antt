-- A place is held as the records have it.
use Rattle.relay_node.proofs.node.Node.place.Goals as goal

pub returns-clause-kept : goal.returns-clause-kept
returns-clause-kept g c = rw (← c.self.view_is) (λ changes keeps. c.place.ensures.kept changes keeps)
