use Rattle.relay_backlog.proofs.LineLemmas.{line_found, line_nowhere}
use Rattle.relay_backlog.proofs.backlog.line_length.Goals as goal

pub returns-in-Some-clause-line : goal.returns-in-Some-clause-line
returns-in-Some-clause-line c = line_found c.args.octets.now c.in-Some.place c.in-Some.ensures

pub returns-in-None-clause-line : goal.returns-in-None-clause-line
returns-in-None-clause-line c = line_nowhere c.args.octets.now c.in-None.ensures
