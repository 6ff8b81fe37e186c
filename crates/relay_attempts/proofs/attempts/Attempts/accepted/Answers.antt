use Rattle.relay_attempts.proofs.OpenLemmas.{accepted_serves}
use Rattle.relay_attempts.proofs.attempts.Attempts.accepted.Goals as goal

pub returns-clause-serves : goal.returns-clause-serves
returns-clause-serves g c = λ host queue accept rise number_is new_is serves.
    accepted_serves host c.args.table.now queue c.args.records.now.queue accept c.args.number c.args.self.now _ rise number_is new_is
    c.note.ensures.runs c.note.ensures.stranded serves
