use Rattle.std.proofs.Common.{ℕ, Option, subst}
use Rattle.relay_node.specs.Node.{TakesIn}
use Rattle.relay_node.proofs.attempts.note.Goals as goal

pub returns-in-Some-clause-serves : goal.returns-in-Some-clause-serves
returns-in-Some-clause-serves g c = λ host queue rise takes serves.
    let taken = subst (λ (change : Option ℕ). TakesIn queue change c.args.records.now.queue) c.in-Some.is takes in
    c.accepted.ensures.serves host queue taken.0 rise taken.1 taken.2 serves
