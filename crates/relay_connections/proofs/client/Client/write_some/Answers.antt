-- What was said before a write is said after it.
use Rattle.relay_connections.proofs.client.Client.write_some.Goals as goal

pub returns-then-not-write-clause-said : goal.returns-then-not-write-clause-said
returns-then-not-write-clause-said g c = λ changes address said has.
    c.write.ensures.said changes address said (c.loop.invariant.2 changes address said has)

pub returns-clause-said : goal.returns-clause-said
returns-clause-said g c = c.loop.invariant.2

-- What was empty before a write is empty after it.
pub returns-then-not-write-clause-none : goal.returns-then-not-write-clause-none
returns-then-not-write-clause-none g c = λ none. c.write.ensures.none (c.loop.invariant.5 none)

pub returns-clause-none : goal.returns-clause-none
returns-clause-none g c = c.loop.invariant.5
