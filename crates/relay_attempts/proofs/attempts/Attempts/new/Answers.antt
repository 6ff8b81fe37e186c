use Rattle.relay_attempts.proofs.OpenLemmas.{idle_serves}
use Rattle.relay_attempts.proofs.attempts.Attempts.new.Goals as goal

pub returns-clause-serves : goal.returns-clause-serves
returns-clause-serves g c = λ host. idle_serves host c.args.table.now _ c.args.records.now.queue c.in_ok-new.ensures.free c.in_ok-stranded.ensures
