use Rattle.relay_body.proofs.RunLemmas.{none_found, run_found}
use Rattle.relay_body.proofs.run.run_end.Goals as goal

pub returns-in-Some : goal.returns-in-Some
returns-in-Some c =
    record { ends = run_found c.args.octets.now c.in-Some.place c.in-Some.ensures.0 c.in-Some.ensures.1 }

pub returns-in-None : goal.returns-in-None
returns-in-None c = record { ends = none_found c.args.octets.now c.in-None.ensures }
