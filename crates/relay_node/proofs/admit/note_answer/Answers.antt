use Rattle.std.proofs.Common.{subst}
use Rattle.relay_server.specs.declared.offer.Answer.{Answer}
use Rattle.relay_node.specs.Admission.{TakesAnswer}
use Rattle.relay_node.proofs.admit.note_answer.Goals as goal

pub returns-in-Queued-clause-serves : goal.returns-in-Queued-clause-serves
returns-in-Queued-clause-serves g c = λ host queue rise takes serves.
    let taken = subst (λ (answer : Answer). TakesAnswer queue answer c.args.records.now.queue) c.in-Queued.is takes in
    c.accepted.ensures.serves host queue taken.0 rise taken.1 taken.2 serves
