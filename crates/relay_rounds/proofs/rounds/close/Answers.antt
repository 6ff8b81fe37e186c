-- What the hub's close says of its result is said of the node and the receipts, whether or not they agree.
use Rattle.relay_rounds.proofs.rounds.close.Goals as goal

pub returns-in-Ok-clause-run : goal.returns-in-Ok-clause-run
returns-in-Ok-clause-run g c = λ changes starts. c.in-Ok.ensures.closed changes starts

pub returns-in-Err-clause-run : goal.returns-in-Err-clause-run
returns-in-Err-clause-run g c = λ changes starts. (
  rw c.into_parts-node.ensures.0 (c.in-Err.ensures.mismatch changes starts),
  rw c.into_parts-node.ensures.0 (c.in-Err.ensures.grown changes starts),
)
